pub mod SecondForm
pub mod SecondRun
pub mod SecondNames
pub mod SecondFaults
pub mod laws
