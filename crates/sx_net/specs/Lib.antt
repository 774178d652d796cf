pub mod Arcs
pub mod Paths
pub mod Network
pub mod Laws
pub mod Visits
pub mod Trees
pub mod Leaving
pub mod Sound
