pub mod Words
pub mod Ranges
pub mod Market
mod Cases
