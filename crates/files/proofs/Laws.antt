-- All that the crates above cite of a file.
pub mod Opening
