pub mod Each
pub mod Indices
