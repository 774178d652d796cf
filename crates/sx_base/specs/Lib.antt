pub mod Ranges
pub mod Outside
pub mod Exact
pub mod Memory
pub mod Standard
