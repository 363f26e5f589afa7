pub mod Lists
pub mod Orders
pub mod Calling
pub mod Telling
pub mod News
pub mod Examples
