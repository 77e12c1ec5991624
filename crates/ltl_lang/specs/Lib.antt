pub mod Meaning
pub mod Prices
pub mod Bounds
pub mod Ranges
pub mod Units
pub mod laws
