pub mod Codes
pub mod Composed
