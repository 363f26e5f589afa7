pub mod Tree
pub mod Forms
pub mod Relations
pub mod Calls
