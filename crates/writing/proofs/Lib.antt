pub mod Fronts
pub mod Sizes
pub mod Views
pub mod Plains
pub mod Rows
pub mod Trips
