pub mod Orders
pub mod Merging
pub mod Fields
pub mod Building
pub mod Finding
pub mod Joining
pub mod Names
pub mod Choosing
