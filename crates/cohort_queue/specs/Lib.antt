pub mod Numbers
pub mod States
pub mod Views
pub mod Rule
pub mod Steps
pub mod Seats
pub mod Jobs
pub mod Laws
