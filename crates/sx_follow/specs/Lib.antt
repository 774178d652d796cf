pub mod Follower
pub mod InTurn
pub mod Waiting
pub mod Chosen
pub mod Leaves
pub mod Ahead
pub mod Bodies
pub mod FollowerLaws
