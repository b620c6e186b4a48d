pub mod Chains
pub mod Queue
pub mod Kept
pub mod Tokens
