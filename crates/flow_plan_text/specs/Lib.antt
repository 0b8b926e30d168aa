pub mod Built
pub mod Keys
pub mod Passes
pub mod Plan
pub mod Read
pub mod Rules
