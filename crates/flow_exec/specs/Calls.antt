-- What the calls that all blocks have in common do to an execution block: what they do to its block, and nothing to its work.
use Rattle.std.specs.Prelude.{◌≡◌}
use Rattle.flow_link.specs.BlockCalls.{BlockCall}
use Rattle.flow_link.specs.SourceCalls.{SourceCall}
use Rattle.flow_link.specs.TargetCalls.{TargetCall}
use Rattle.flow_block.specs.Traits.{settles, Acts as BlockActs, Gives as BlockGives, Takes as BlockTakes}
use Rattle.flow_exec.specs.Execution.{ExecutionState}

module _ {W : Type 0} (old : ExecutionState W) where
  -- when it is asked whether it has ended
  abbrev pub Learns : ExecutionState W → Type 0
  Learns new = (new.block ≡ settles old.block) × (new.work ≡ old.work)

  abbrev pub Acts : BlockCall → ExecutionState W → Type 0
  Acts call new = BlockActs old.block call new.block × (new.work ≡ old.work)

  abbrev pub Gives : SourceCall → ExecutionState W → Type 0
  Gives call new = BlockGives old.block call new.block × (new.work ≡ old.work)

  abbrev pub Takes : TargetCall → ExecutionState W → Type 0
  Takes call new = BlockTakes old.block call new.block × (new.work ≡ old.work)
