pub mod Grows
pub mod Pays
pub mod Steps
pub mod OfKind
pub mod Dues
pub mod Refusing
