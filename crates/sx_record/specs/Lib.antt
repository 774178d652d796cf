pub mod Tags
pub mod Frame
pub mod Decoding
pub mod Stream
pub mod Laws
