pub mod Symbols
pub mod Words
pub mod Depth
pub mod Parsing
pub mod Descent
pub mod Answer
pub mod Heads
pub mod LocalLists
