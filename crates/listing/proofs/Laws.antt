-- All that the crates above cite of a listing.
pub mod Lines
pub mod Reporting
