pub mod Outcomes
pub mod Passed
pub mod Asked
