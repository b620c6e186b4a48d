pub mod Items
pub mod Making
pub mod Rooms
pub mod States
pub mod Values
