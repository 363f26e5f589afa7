pub mod Pictures
pub mod Writing
pub mod Reading
pub mod Cases
