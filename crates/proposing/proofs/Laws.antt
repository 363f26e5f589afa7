-- All that the crates above cite of a proposal.
pub mod Steps
pub mod Numbers
