pub mod News
pub mod Examples
