pub mod Lists
pub mod Plans
pub mod Shapes
pub mod Laws
