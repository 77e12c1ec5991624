pub mod Objects
pub mod Walk
pub mod Faces
pub mod Typing
