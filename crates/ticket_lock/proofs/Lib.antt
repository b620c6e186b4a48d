pub mod Rounds
pub mod Queue
pub mod Kept
