pub mod Carryings
pub mod Leading
pub mod Readings
pub mod Searching
pub mod Tracings
