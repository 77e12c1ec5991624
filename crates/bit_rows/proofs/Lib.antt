pub mod Ones
pub mod Kept
pub mod Joins
pub mod Seen
pub mod Lists
