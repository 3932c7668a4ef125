pub mod Stacks
pub mod Loads
pub mod Typed
pub mod Room
pub mod Visits
pub mod Costs
