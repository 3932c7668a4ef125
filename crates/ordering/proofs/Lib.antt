pub mod Ways
pub mod Texts
pub mod Apart
pub mod Same
pub mod Alike
pub mod Flips
pub mod Transits
