pub mod Scopes
pub mod Typed
pub mod Walked
pub mod Means
