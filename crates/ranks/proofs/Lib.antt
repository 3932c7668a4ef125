pub mod Compares
pub mod Listings
pub mod Gathers
pub mod Runs
pub mod TypeNames
pub mod QueryNames
pub mod Requests
