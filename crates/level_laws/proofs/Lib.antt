pub mod Cohorts
pub mod Holders
pub mod Reach
pub mod Told
pub mod Users
