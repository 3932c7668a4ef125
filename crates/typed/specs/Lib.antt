pub mod Shaped
pub mod Walks
pub mod Told
