pub mod Toys
pub mod laws
