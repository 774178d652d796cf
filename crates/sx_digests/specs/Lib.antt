pub mod Hashing
pub mod StateDigest
