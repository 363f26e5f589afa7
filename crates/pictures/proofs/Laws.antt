-- All that the crates above cite of a picture.
pub mod Room
pub mod Proposals
pub mod Calls
