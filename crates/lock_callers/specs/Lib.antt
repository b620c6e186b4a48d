pub mod Goes
pub mod Sound
pub mod Seen
