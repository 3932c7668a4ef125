pub mod Sorted
pub mod Below
pub mod Typed
pub mod Numbering
pub mod Slots
pub mod Brings
