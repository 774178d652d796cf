pub mod Table
pub mod Excess
