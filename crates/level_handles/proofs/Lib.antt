pub mod Sent
pub mod Values
pub mod Boxed
pub mod Ready
