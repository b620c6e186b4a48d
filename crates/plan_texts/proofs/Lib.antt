pub mod RunPlans
