pub mod Rolls
pub mod Seated
pub mod Sitting
pub mod Crossing
