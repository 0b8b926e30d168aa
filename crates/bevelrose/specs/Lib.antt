pub mod Work
pub use Rattle.flow_board.specs.Parts
