pub mod Fronts
pub mod Loads
