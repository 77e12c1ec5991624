pub mod Padding
pub mod Standing
pub mod Within
pub mod Fours
pub mod Turns
