pub mod Finite
pub mod Sums
