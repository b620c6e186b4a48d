pub mod Items
pub mod Numbers
pub mod Filled
pub mod Seated
pub mod Rows
pub mod Kept
pub mod Leaving
pub mod Crossing
