pub mod PairFills
pub mod AllFills
pub mod Laws
pub mod Bounds
