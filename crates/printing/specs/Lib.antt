pub mod Texts
pub mod Lines
pub mod Datums
pub mod Words
pub mod Opens
