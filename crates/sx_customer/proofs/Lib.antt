pub mod Balances
pub mod Settled
pub mod Written
pub mod Answered
pub mod Seals
pub mod Others
pub mod Told
