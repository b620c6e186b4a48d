pub mod Rooms
pub mod Walkers
pub mod Jobs
