pub mod Showing
pub mod Running
pub mod StateParts
pub mod Replaying
pub mod Following
pub mod Filtering
pub mod Numbers
pub mod Making
