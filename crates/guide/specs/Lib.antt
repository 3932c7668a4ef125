pub mod Guide
pub mod Marks
pub mod Visits
