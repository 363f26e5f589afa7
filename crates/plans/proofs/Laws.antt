-- All that the crates above cite of a plan.
pub mod Planning
pub mod Cases
pub mod Accepting
pub mod Acting
pub mod Knowing
