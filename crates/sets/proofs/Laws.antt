-- All that the crates above cite of sets.
pub mod Bools
pub mod Members
pub mod Searches
pub mod Found
pub mod Counts
pub mod Alike
pub mod Places
