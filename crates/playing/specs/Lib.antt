pub mod Playing
pub mod Reaching
pub mod Between
