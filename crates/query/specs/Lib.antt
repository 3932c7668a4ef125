pub mod Data
pub mod Query
pub mod Types
pub mod Size
pub mod Promise
pub mod Laws
