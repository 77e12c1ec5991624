pub mod Clear
pub mod Adding
pub mod Moving
pub mod Asking
pub mod Listing
