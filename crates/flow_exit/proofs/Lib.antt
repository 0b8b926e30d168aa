pub mod ExitLooks
pub mod ExitsInOrder
pub mod ExitsKeep
