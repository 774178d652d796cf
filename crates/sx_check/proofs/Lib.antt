pub mod Counting
pub mod OfferLaws
pub mod Cases
pub mod OnceNamed
pub mod BoundLaws
