pub mod Values
pub mod Functions
pub mod States
pub mod Turns
pub mod Prices
pub mod Named
pub mod Bounds
pub mod laws
