pub mod RunPlan
pub mod SelectText
