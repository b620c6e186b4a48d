pub mod Nodes
pub mod Chain
pub mod Queue
pub mod Kept
