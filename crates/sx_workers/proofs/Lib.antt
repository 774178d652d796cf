pub mod Empty
pub mod Stacks
