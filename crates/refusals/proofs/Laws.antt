-- All that the crates above cite of refusals.
pub mod Refusing
