pub mod Joins
pub mod LayerReadings
pub mod TermReadings
