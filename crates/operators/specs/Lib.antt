pub mod Came
pub mod Means
pub mod Kinds
pub mod Applied
pub mod Ready
