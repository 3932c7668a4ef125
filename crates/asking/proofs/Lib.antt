pub mod Cut
pub mod Out
pub mod Bound
pub mod Standing
pub mod Loading
