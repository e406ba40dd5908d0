pub mod Search
pub mod Known
