pub mod Paying
pub mod Slots
pub mod OfBags
pub mod OfRecords
pub mod Placed
