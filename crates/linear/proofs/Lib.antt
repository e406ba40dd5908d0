pub mod Charges
pub mod Columns
pub mod Objectives
pub mod Cost
pub mod Fitting
pub mod Gathering
