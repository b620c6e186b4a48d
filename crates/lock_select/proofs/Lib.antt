pub mod Ideals
pub mod Lawfulness
pub mod NodeLaws
pub mod Walked
pub mod Searches
pub mod TraceReadings
