pub mod Books
pub mod Jobs
pub mod Crews
pub mod Ready
pub mod Done
pub mod Finished
