-- All that the crates above cite of a group.
pub mod Stepping
pub mod Events
pub mod Preserving
pub mod Knowing
pub mod Moving
pub mod Flying
pub mod Following
pub mod Changing
pub mod Answering
pub mod Reached
