pub mod Grids
pub mod Balances
pub mod Cuts
pub mod Shaping
pub mod Filling
pub mod Marking
