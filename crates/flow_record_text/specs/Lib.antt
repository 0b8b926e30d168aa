pub mod Field
pub mod Lines
pub mod Places
pub mod Records
pub mod Rest
