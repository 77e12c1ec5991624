pub mod DigitLemmas
pub mod KeywordLemmas
pub mod FrontLemmas
pub mod ValueLemmas
pub mod LiteralLemmas
pub mod LexemeLemmas
