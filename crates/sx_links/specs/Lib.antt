pub mod Lists
pub mod Pool
