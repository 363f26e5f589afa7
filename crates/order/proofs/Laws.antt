-- All that the crates above cite of "in order".
pub mod Ranks
pub mod Ordering
pub mod Fresh
