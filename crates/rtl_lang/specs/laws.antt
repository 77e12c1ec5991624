pub mod Growth
pub mod Temporaries
pub mod Routines
