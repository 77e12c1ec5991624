pub mod Hops
pub mod Spellings
pub mod StackAndCode
pub mod ImageSemantics
