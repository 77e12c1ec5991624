pub mod Bounds
pub mod Lists
pub mod Meets
pub mod Refines
pub mod Simulation
pub mod Turns
