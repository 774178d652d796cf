pub mod Residual
pub mod Walks
pub mod Labels
