pub mod Xi
pub mod Cells
