-- All that the crates above cite of what was read.
pub mod Fronts
