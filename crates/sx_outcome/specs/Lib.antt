pub mod Gathering
pub mod Laws
pub mod OutcomeDecoding
pub mod Outcomes
pub mod Packed
pub mod Room
pub mod ScriptDecoding
pub mod Scripts
