pub mod Journals
pub mod Numbers
pub mod Rounds
pub mod Rules
pub mod Runs
