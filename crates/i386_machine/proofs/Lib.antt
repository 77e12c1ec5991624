pub mod Accesses
pub mod GoesOn
pub mod SomeInput
pub mod Scaling
pub mod NotAsked
pub mod Kept
