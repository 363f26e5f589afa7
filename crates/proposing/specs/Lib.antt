pub mod Proposing
