pub mod Spelling
pub mod Canonical
pub mod Pieces
pub mod SameTree
pub mod Placed
pub mod ReadBack
pub mod Cut
pub mod Reparsed
