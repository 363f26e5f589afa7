-- A batch along its code.
pub mod Handling
