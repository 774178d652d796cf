pub mod NumberLaws
pub mod WalkLaws
pub mod ProgramLaws
pub mod TakenNumbers
pub mod SealLaws
pub mod WorkersLaws
pub mod ProveLaws
pub mod DemoLaws
pub mod OptionLaws
pub mod CommandLaws
mod Cases
