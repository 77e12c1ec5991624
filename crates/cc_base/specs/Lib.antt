pub mod Seen
pub mod Outside
pub mod InMemory
pub mod Host
pub mod Runs
pub mod Words
pub mod NumberText
pub mod Faces
