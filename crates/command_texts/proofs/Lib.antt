pub mod Masks
pub mod OnTopologies
pub mod Topologies
