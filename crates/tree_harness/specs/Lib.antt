pub mod Crews
pub mod Ready
pub mod Shifts
