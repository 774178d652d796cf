pub mod Seats
pub mod Growing
pub mod Steps
pub mod Decided
pub mod Keeping
pub mod Submitting
pub mod Joining
pub mod Loops
pub mod Bodies
pub mod Sealing
mod Cases
