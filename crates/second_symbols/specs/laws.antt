pub mod ItemSights
pub mod Sighted
pub mod Symbols
