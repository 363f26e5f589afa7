-- All that the crates above cite of answers.
pub mod Numbers
