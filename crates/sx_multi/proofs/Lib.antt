pub mod Best
pub mod PostedLaws
pub mod Ends
pub mod Cases
pub mod QuoteCases
