pub mod Growth
pub mod Locations
