pub mod One
pub mod Told
pub mod Steps
pub mod Things
pub mod Named
pub mod Whole
