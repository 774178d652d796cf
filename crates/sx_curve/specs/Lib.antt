pub mod Quotes
pub mod Curves
pub mod Listed
pub mod Demand
pub mod Search
pub mod Laws
