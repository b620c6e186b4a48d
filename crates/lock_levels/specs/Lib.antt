pub mod AnyKinds
pub mod Kinds
pub mod Raised
pub mod Ruled
