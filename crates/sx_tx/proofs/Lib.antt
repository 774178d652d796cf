pub mod FieldLaws
pub mod WindowLaws
pub mod UsedNumbers
pub mod TxLaws
pub mod ListLaws
pub mod FaultPlaces
pub mod Halves
mod WindowCases
