pub mod Answered
pub mod Checked
pub mod Kept
