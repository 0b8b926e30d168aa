pub mod Answers
pub mod Owned
pub mod Ran
pub mod Refusal
