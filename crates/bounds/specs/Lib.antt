pub mod Names
pub mod Bounds
