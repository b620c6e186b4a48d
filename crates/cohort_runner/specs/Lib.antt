pub mod Rolls
pub mod Callers
pub mod Runs
