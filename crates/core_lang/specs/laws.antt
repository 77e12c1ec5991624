pub mod Growth
pub mod Opened
pub mod Sizes
pub mod Temporaries
