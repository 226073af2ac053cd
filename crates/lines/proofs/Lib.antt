pub mod Scans
pub mod Gathers
pub mod Drawing
pub mod Orders
pub mod Timetables
pub mod Openings
