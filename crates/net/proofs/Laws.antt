-- All that the crates above cite of the list of messages.
pub mod Net
pub mod Forwarding
pub mod Lists
pub mod Among
pub mod Numbers
