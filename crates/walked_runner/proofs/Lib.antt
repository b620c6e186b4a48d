pub mod Items
pub mod States
pub mod Tasks
