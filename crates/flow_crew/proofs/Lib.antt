pub mod Callers
pub mod ComesBack
pub mod ItemsCross
pub mod Journals
pub mod Keeps
pub mod Once
pub mod RunsOn
pub mod Tasks
