pub mod ThreeLots
