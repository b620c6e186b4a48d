pub mod Prefixes
pub mod Kept
pub mod Crossing
pub mod Shared
pub mod Shown
pub mod Tokens
pub mod Names
