pub mod Rows
pub mod Pattern
pub mod Page
pub mod Listed
