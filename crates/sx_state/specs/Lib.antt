pub mod SoundOffers
pub mod SoundAccounts
pub mod Encoding
pub mod Decoding
pub mod Laws
