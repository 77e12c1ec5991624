pub mod Found
pub mod NameLists
pub mod Rows
