pub mod Actors
pub mod Ahead
pub mod RunForm
pub mod RunKeeps
pub mod RunOf
pub mod Running
