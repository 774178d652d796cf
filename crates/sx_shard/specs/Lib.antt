pub mod Words
pub mod Known
pub mod Models
pub mod Table
pub mod Plays
pub mod Reserve
pub mod Close
