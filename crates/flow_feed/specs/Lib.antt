pub mod RawRows
pub mod Sends
pub mod Stands
