pub mod Translation
pub mod Units
pub mod Relation
pub mod laws
