pub mod Driven
pub mod Reserved
