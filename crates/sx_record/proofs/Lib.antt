pub mod Taking
pub mod Framing
pub mod Encoding
