pub mod Input
pub mod InputKeeps
pub mod Sends
