pub mod Linking
pub mod Runs
pub mod Chains
pub mod Sound
