pub mod Rests
pub mod TypeLists
pub mod MemberLists
pub mod FunctionHeads
