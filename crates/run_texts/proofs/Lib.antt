pub mod Appending
pub mod Cuts
pub mod Escapes
pub mod Fronts
pub mod Histories
pub mod Numbered
pub mod Printed
pub mod Texts
