pub mod Listings
pub mod Witnesses
