-- All that the crates up cite of a line.
pub mod Lines
