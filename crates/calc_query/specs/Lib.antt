pub mod Picks
pub mod Candidates
pub mod Found
pub mod Selection
pub mod Readings
pub mod Answers
pub mod Laws
