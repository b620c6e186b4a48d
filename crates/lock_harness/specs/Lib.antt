pub mod Tokens
pub mod Slow
