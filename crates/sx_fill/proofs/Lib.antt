pub mod Trading
pub mod PairOrder
pub mod PairValues
pub mod BoundLaws
pub mod SameBounds
