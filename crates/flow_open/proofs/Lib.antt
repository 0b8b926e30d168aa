pub mod Each
pub mod Opening
pub mod Pairs
pub mod Parts
pub mod Sending
pub mod Taking
