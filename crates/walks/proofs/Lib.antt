pub mod Fitting
pub mod Global
pub mod Optimal
pub mod Snocs
