pub mod Distances
pub mod Grants
pub mod Links
pub mod Nodes
