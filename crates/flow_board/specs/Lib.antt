pub mod At
pub mod Begun
pub mod GatherRoom
pub mod Gathers
pub mod Home
pub mod Parts
pub mod Untouched
