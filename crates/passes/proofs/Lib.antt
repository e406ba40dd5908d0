pub mod Whole
pub mod Landed
pub mod Accepted
pub mod Numbers
