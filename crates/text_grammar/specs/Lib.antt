pub mod Lexical
pub mod Scanning
pub mod Spelled
pub mod Lexemes
pub mod Grammar
pub mod laws
