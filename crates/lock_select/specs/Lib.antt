pub mod Texts
pub mod Traces
pub mod Nodes
pub mod IdealTurns
pub mod Costs
pub mod Walks
pub mod Search
pub mod Laws
