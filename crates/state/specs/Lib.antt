pub mod States
pub mod Starting
