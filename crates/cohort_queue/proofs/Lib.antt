pub mod Counted
pub mod Views
pub mod Kept
pub mod Giving
pub mod Splitting
pub mod Closing
pub mod Stand
pub mod Crossing
