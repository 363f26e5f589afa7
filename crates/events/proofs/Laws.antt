-- All that the crates above cite of events.
pub mod Naming
