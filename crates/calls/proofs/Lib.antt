pub mod Laws
pub mod Examples
pub mod Cases
pub mod Determined
pub mod Marking
