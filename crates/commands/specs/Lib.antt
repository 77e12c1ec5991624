pub mod Doing
pub mod Giving
pub mod Answers
pub mod Steps
pub mod Does
pub mod Meanings
pub mod LinkingSteps
pub mod Lines
