pub mod Calls
pub mod Execution
pub mod Jobs
pub mod Results
pub mod Works
