pub mod Steps
pub mod Excesses
pub mod Rounds
