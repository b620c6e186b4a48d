pub mod Numbers
pub mod Strides
pub mod Sizes
pub mod Parts
pub mod Lines
pub mod Readings
pub mod Replays
pub mod Totals
