-- All that the crates above cite of a state.
pub mod Starting
