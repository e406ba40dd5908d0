pub mod Laws
pub mod Marks
pub mod NextCone
