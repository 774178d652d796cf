pub mod RangeSums
pub mod Splits
pub mod Sold
pub mod Columns
