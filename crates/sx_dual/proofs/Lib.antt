pub mod Rows
pub mod SumLaws
pub mod Duality
pub mod CutLaws
pub mod Ranges
pub mod Steps
pub mod Passes
