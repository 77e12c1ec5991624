pub mod Fields
pub mod Proper
pub mod Operands
pub mod Table
pub mod Spelling
pub mod Rows
pub mod Reading
pub mod Writing
