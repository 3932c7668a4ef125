pub mod Puts
pub mod Writes
pub mod Trip
