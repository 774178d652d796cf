mod FormatCases
pub mod Opening
pub mod RunningTotals
pub mod TotalsInRange
pub mod EntriesInOrder
pub mod OwnersLater
pub mod SoundOffers
pub mod SoundAccounts
pub mod DependentParts
pub mod WindowFields
pub mod AccountLaws
pub mod OfferLaws
pub mod HeadLaws
pub mod PartsLaws
pub mod Payload
pub mod Lengths
pub mod DecodedRanges
pub mod FaultPlaces
