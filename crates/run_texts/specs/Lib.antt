pub mod Callers
pub mod Text
pub mod Entries
pub mod Printed
pub mod Views
pub mod Laws
