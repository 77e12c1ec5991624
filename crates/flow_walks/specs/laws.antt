pub mod Members
pub mod Cover
pub mod Steps
