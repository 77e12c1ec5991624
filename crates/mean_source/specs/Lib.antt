pub mod Means
pub mod Programs
