-- All that the crates above cite of written text.
pub mod Writing
pub mod Digits
pub mod Lines
