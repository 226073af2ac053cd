pub mod Accounting
pub mod Entries
pub mod Scanning
