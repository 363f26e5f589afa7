pub mod Laws
pub mod Printing
pub mod Determined
pub mod Witnesses
