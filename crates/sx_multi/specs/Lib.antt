pub mod Posted
pub mod Slots
pub mod Laws
pub mod Quotes
