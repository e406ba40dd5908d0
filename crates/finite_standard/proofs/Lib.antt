pub mod AccJerk
pub mod Rows
