pub mod Chain
pub mod Search
pub mod Tests
pub mod Slots
pub mod Within
