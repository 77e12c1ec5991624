pub mod Runtime
pub mod Placement
pub mod Names
pub mod Inputs
pub mod Linked
pub mod LinkSteps
