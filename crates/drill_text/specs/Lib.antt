pub mod Drill
pub mod Sums
