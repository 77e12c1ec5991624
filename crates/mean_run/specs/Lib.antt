pub mod Scenes
pub mod Lefts
pub mod Frames
pub mod Processes
pub mod Running
