pub mod Taken
pub mod Fronts
pub mod SameKind
pub mod Fields
pub mod Meets
pub mod Walks
pub mod Judges
