pub mod At
pub mod Regions
pub mod Runs
pub mod Steps
