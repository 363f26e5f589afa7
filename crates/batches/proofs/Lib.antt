pub mod Laws
pub mod Batching
pub mod Cases
pub mod Determined
