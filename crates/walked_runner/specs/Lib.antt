pub mod Walkers
pub mod Steps
