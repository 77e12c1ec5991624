pub mod Mirrors
pub mod laws
