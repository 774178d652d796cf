pub mod Indexed
pub mod Trades
mod Cases
