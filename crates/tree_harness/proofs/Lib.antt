pub mod Shifts
pub mod Starts
