pub mod NextBlock
pub mod ChosenNext
pub mod Steps
pub mod Followers
pub mod Taking
mod Cases
mod InTurn
pub mod Places
pub mod HeightPlaces
pub mod Entering
pub mod Chosen
mod WaitingCases
pub mod AheadSteps
pub mod BodyDigests
pub mod RightOnes
