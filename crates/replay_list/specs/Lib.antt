pub mod Agreement
pub mod Arrays
pub mod Decoded
pub mod File
pub mod Format
