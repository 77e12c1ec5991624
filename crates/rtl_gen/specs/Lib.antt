pub mod Trees
pub mod Translation
pub mod Units
pub mod Extents
pub mod Relation
pub mod laws
