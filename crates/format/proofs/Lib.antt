pub mod Numbers
pub mod Heads
pub mod Moved
pub mod Spans
pub mod Names
pub mod Pairs
pub mod Wholes
pub mod Places
