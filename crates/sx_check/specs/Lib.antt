pub mod Surveys
pub mod Judged
pub mod Explanations
