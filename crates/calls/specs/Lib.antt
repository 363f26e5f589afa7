pub mod Calls
pub mod Examples
pub mod Cases
