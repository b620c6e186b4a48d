pub mod Rounding
pub mod SharedLaws
pub mod ExpansionLaws
pub mod Reaching
pub mod AsMany
pub mod Covering
