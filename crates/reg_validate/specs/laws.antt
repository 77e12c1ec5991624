pub mod Fixed
pub mod Placing
