mod Records
mod KnownKinds
mod KindCheck
mod Owners
pub mod Demands
