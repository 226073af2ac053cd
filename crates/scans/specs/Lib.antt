pub mod Accounts
pub mod Arrivals
pub mod Boards
pub mod Entering
pub mod Progress
pub mod Tables
pub mod Views
pub mod Orders
