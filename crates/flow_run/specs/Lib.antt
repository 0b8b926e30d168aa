pub mod Left
pub mod Ran
pub mod Refusal
pub mod Split
pub mod Status
