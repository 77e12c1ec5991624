pub mod Held
pub mod Names
pub mod Sights
pub mod Symbols
pub mod Table
