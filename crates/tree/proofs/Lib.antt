pub mod Kin
pub mod Laws
pub mod Determined
