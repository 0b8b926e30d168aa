pub mod Completes
pub mod Fault
pub mod Held
pub mod Receives
pub mod Sends
pub mod Turns
