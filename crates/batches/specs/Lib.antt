pub mod Batches
pub mod Cases
