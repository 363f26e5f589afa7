-- All that the crates above cite of a run.
pub mod Opening
pub mod Ending
pub mod Slices
pub mod Steps
