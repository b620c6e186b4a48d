pub mod Heads
pub mod Places
pub mod Sections
pub mod Views
pub mod Laws
