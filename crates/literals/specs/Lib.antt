pub mod Numbered
pub mod Written
pub mod Steps
pub mod Literals
