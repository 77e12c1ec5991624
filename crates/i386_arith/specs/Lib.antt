pub mod Words
pub mod Operations
pub mod Division
pub mod Conditions
pub mod Comparing
