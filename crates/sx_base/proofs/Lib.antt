pub mod SoFar
mod Cases
