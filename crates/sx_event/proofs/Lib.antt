pub mod Sums
pub mod Ranges
pub mod Words
pub mod Keeping
pub mod Runs
pub mod Read
pub mod Chaining
pub mod Linking
pub mod Bucketing
pub mod Agreeing
pub mod Stepping
mod Cases
