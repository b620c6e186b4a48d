pub mod Contents
pub mod Counts
pub mod InMemory
pub mod Reading
pub mod Standard
