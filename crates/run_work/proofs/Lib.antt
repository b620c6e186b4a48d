pub mod Crossing
pub mod Served
