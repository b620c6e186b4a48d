pub mod Laws
pub mod Positionals
