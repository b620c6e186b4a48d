pub mod Levels
pub mod MadeKinds
pub mod Raised
