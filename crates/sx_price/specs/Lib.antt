pub mod Limits
pub mod Rounding
pub mod Laws
