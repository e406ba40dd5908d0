pub mod Costs
pub mod Torque
