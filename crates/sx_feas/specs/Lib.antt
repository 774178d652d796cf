pub mod Feas
pub mod Shape
