pub mod Rule
pub mod Kinds
pub mod Calls
pub mod Choice
