pub mod Progress
pub mod Agreement
pub mod Witnesses
