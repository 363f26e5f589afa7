-- All that the crates above may cite of the calls on a view.
pub mod Shapes
pub mod Calls
pub mod Climbing
pub mod Marks
