pub mod Each
pub mod Identifiers
pub mod NameRules
pub mod SecondExamples
