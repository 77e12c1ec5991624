pub mod Lists
pub mod Told
pub mod Noting
pub mod Meanings
pub mod Blocks
pub mod Making
pub mod ByName
