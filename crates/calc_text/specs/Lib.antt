pub mod Layers
pub mod Reading
pub mod Texts
