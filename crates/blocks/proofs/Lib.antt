pub mod Fills
pub mod Lists
pub mod Records
pub mod Scans
