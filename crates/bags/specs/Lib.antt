pub mod Things
pub mod Bags
