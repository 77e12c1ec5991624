pub mod Judgements
pub mod Values
pub mod Conversions
pub mod Operations
pub mod Access
pub mod Expressions
pub mod Uses
pub mod Places
