pub mod Sums
pub mod Measured
pub mod Additions
pub mod Answers
