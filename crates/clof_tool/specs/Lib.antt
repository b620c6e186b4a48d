pub mod Ended
pub mod Process
pub mod Room
pub mod InMemory
