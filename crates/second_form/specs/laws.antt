pub mod Growth
pub mod Links
