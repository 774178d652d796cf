pub mod Sums
pub mod Circulation
pub mod Cuts
pub mod Fit
pub mod Tables
pub mod Misfit
pub mod Search
pub mod Laws
