pub mod Slots
pub mod Desks
pub mod Changes
pub mod Makings
pub mod Halls
