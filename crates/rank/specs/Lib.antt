pub mod Words
pub mod Triples
pub mod Records
pub mod Sends
pub mod Rules
pub mod Between
