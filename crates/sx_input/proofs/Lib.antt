pub mod PayloadItems
pub mod Faults
pub mod TakenRecords
pub mod Readings
