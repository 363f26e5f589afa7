pub mod Laws
pub mod Reaching
pub mod Determined
