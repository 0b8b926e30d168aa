pub mod CutInTwo
pub mod InputsAsPosted
