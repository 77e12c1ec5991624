pub mod Flows
pub mod Liveness
pub mod Lists
pub mod laws
