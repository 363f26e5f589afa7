-- All that the crates above cite of a drawing.
pub mod Drawing
