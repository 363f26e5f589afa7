pub mod Plans
pub mod Between
