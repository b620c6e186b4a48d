pub mod Classes
pub mod InClass
pub mod Cuts
pub mod Views
pub mod Numerals
pub mod Words
