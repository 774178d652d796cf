pub mod Points
pub mod Trials
pub mod States
