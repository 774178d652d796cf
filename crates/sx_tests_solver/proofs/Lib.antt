pub mod SmallMarket
pub mod Alike
