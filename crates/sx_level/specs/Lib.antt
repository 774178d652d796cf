pub mod Solved
pub mod Shape
pub mod Building
pub mod Following
pub mod Borders
pub mod Levels
