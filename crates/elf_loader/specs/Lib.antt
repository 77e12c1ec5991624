pub mod Load
pub mod Places
