-- What holds of each block by its kind, whatever is called.
use Rattle.std.specs.Prelude.{◌≡◌, ℕ, true, false, length, Some}
use Rattle.flow_link.specs.declared.draft.BlockKind.{BlockKind}
use Rattle.flow_link.specs.Plan.{is_write_once}
use Rattle.flow_block.specs.Block.{BlockState, port_at, has_ports}

pub record IsOf (kind : BlockKind) (block : BlockState) : Type 0 where
  pub kind_is : block.kind ≡ kind
  -- only joins have more than one port
  pub alone : has_ports kind ≡ false → length block.ports ≡ 1
  -- what takes one message in all has room for one
  pub once : is_write_once kind ≡ true → (port_at 0 block).capacity ≡ Some 1
  -- no port reserves: it takes what it may, or consumes it later
  pub freely : (p : ℕ) → (port_at p block).reserves ≡ false
