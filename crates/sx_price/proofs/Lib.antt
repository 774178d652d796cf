pub mod Products
pub mod Decided
