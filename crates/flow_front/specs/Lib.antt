pub mod Inputs
pub mod Named
