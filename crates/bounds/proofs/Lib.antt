pub mod Heights
pub mod TypeHeights
pub mod Lists
pub mod Naming
pub mod TypeNames
pub mod Widths
