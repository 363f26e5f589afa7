-- All that the crates above may cite of the tree.
pub mod Rows
pub mod Parents
pub mod Children
pub mod Ancestors
pub mod Flat
pub mod Forms
pub mod Finding
pub mod Heirs
pub mod Mending
pub mod Gaining
pub mod Climbing
pub mod Calls
