pub mod Field
pub mod Cursor
pub mod Fault
pub mod Grammar
pub mod Written
pub mod Laws
pub mod FaultPlaces
