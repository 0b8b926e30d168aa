pub mod Desk
pub mod Shelf
pub mod Trials
