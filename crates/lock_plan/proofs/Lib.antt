pub mod Readings
pub mod Named
pub mod Order
pub mod Refusals
pub mod Plans
pub mod Ranks
pub mod Trees
