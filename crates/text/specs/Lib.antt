pub mod Text
pub mod Pages
