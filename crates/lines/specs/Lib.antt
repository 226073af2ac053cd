pub mod Lines
pub mod Departures
pub mod Merges
pub mod Opening
