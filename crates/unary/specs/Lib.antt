pub mod Unary
