pub mod Carrying
pub mod Lengths
pub mod Readings
pub mod Searches
pub mod Tables
pub mod Tracing
pub mod Carryings
