pub mod Readings
pub mod Tests
