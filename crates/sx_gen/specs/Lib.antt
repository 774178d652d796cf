pub mod Drawing
pub mod Candidates
pub mod State
pub mod Laws
