pub mod Homes
pub mod Units
pub mod Relation
pub mod laws
