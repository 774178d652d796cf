pub mod Trading
pub mod Effects
pub mod FillSums
pub mod Paying
pub mod NextFill
pub mod Laws
