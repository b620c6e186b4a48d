pub mod Sent
pub mod SentDepths
