pub mod Bytes
pub mod Laws
pub mod Numerals
pub mod Doubles
