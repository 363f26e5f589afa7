-- All that the crates above cite of events one after the other.
pub mod Slices
pub mod Playing
pub mod Going
pub mod Spelling
