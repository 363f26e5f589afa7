pub mod Events
pub mod Changes
pub mod Between
pub mod Reaching
pub mod Examples
pub mod Cases
