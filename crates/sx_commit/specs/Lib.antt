pub mod Commitments
pub mod Levels
pub mod Clashes
pub mod Claim
pub mod Laws
pub mod Encoding
pub mod Decoding
pub mod ProofLaws
