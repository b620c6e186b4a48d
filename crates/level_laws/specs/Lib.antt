pub mod Cohorts
pub mod Laws
pub mod Reach
pub mod Uses
