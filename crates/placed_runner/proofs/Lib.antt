pub mod Readings
pub mod Spreads
pub mod Uniqueness
pub mod Walks
