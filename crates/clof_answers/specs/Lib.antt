pub mod Checking
pub mod Drilling
pub mod Outcome
pub mod Answered
pub mod Run
pub mod Selecting
pub mod Laws
