pub mod Field
pub mod Grammar
pub mod ListReading
pub mod Ordered
pub mod DecodingSteps
pub mod Written
pub mod Parts
pub mod FaultPlaces
mod Cases
