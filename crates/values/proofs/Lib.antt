pub mod Slot
pub mod Frame
pub mod Copy
pub mod Ranged
mod Items
