pub mod Order
pub mod Between
