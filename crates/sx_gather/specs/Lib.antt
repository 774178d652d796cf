pub mod Passes
pub mod Submit
pub mod Steps
pub mod Split
pub mod Seal
pub mod Start
