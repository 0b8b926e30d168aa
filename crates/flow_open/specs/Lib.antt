pub mod Opened
pub mod Pairs
pub mod Senders
pub mod Sends
pub mod Takes
