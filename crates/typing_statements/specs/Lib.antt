pub mod Gathering
pub mod Calls
pub mod Assignments
pub mod Statements
