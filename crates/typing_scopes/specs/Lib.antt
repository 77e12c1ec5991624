pub mod Tables
pub mod Visible
pub mod Names
pub mod Growth
pub mod laws
