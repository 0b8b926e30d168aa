pub mod Complete
pub mod Given
pub mod KeptList
pub mod Printed
pub mod Report
pub mod SameLists
pub mod Written
