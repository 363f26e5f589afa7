pub mod Dot
