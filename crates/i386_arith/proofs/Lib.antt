pub mod SignedDivision
pub mod Comparisons
