pub mod Places
pub mod Keeping
pub mod Trying
pub mod Ending
mod Cases
