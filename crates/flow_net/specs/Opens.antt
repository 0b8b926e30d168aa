-- A block that does not end now, neither one of its ports nor itself.
use Rattle.std.specs.Prelude.{◌≡◌, ℕ, ◌<◌, false, length, None}
use Rattle.flow_block.specs.Block.{BlockState}
use Rattle.flow_block.specs.Peeks.{may_complete, next_fault, may_finish}

pub record IsOpen (block : BlockState) : Type 0 where
  pub ports : (p : ℕ) → p < length block.ports → may_complete p block ≡ false
  pub fault : next_fault block ≡ None
  pub goes_on : may_finish block ≡ false
