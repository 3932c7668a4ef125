pub mod Parts
pub mod Steps
pub mod Equations
pub mod Leaves
pub mod Operators
pub mod Walking
pub mod Asking
