pub mod Names
pub mod Passes
pub mod Sums
pub mod Shared
pub mod Trees
