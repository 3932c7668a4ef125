pub mod Shaped
pub mod Ready
pub mod Set
