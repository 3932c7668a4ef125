pub mod Shapes
pub mod Tables
pub mod Fields
pub mod Outcomes
pub mod Operators
pub mod Once
