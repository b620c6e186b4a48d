pub mod Sets
pub mod Tests
pub mod SetLaws
pub mod Bits
pub mod WordLaws
pub mod Texts
pub mod Readings
pub mod Laws
