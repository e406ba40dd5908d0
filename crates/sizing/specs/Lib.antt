pub mod Bounds
pub mod Measured
