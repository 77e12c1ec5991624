pub mod Signatures
pub mod Locals
pub mod Functions
