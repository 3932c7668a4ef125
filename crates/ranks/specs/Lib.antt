pub mod Ranks
pub mod Known
pub mod Naming
pub mod Placed
pub mod Parts
pub mod TypeHeads
pub mod TypeLaws
pub mod QueryLaws
