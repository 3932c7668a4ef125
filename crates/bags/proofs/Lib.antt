pub mod Things
pub mod Joining
pub mod Summing
pub mod Flattening
pub mod Distinct
