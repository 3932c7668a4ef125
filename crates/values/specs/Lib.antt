pub mod Memory
pub mod Height
pub mod Making
pub mod Lent
pub mod Made
