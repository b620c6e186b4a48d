pub mod Shares
pub mod Expansion
pub mod Masks
pub mod Faults
pub mod Laws
