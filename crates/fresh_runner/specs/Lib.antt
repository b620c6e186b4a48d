pub mod Places
pub mod Books
pub mod Jobs
pub mod Ready
pub mod Crews
pub mod Marked
pub mod Receipts
