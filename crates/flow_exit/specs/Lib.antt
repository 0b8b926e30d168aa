pub mod Exit
pub mod ExitKeeps
