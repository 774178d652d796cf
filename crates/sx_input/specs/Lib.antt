pub mod Stream
pub mod Head
pub mod Found
pub mod Incoming
