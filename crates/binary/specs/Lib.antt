pub mod Operands
pub mod Pairs
