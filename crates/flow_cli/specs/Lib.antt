pub mod Conclusion
pub mod Failure
pub mod Number
pub mod Reported
pub mod Request
