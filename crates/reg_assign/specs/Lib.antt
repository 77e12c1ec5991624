pub mod Assignments
pub mod Rows
