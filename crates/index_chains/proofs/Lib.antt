pub mod Walks
pub mod Members
pub mod Links
pub mod Front
pub mod Removal
pub mod Views
pub mod Calls
