pub mod Shapes
pub mod Frame
pub mod Heads
pub mod Standing
pub mod Sizes
pub mod Marking
pub mod Visiting
