-- How a block begins, and what holds of every block: room that is to come back is room that its ports gave out.
use Rattle.std.specs.Prelude.{ℕ, ◌+◌, ◌≤◌, ◌<◌, ◌^◌, cond, List, [], ◌∷◌, length, None, is_some}
use Rattle.flow_link.specs.declared.draft.BlockKind.{BlockKind}
use Rattle.flow_intake.specs.Port.{PortState}
use Rattle.flow_outlet.specs.Fits.{weight_of}
use Rattle.flow_outlet.specs.Outlet.{OutletState, fresh_outlet}
use Rattle.flow_outlet.specs.declared.ends.LinkRule.{LinkRule}
use Rattle.flow_block.specs.Block.{BlockState}
use Rattle.flow_block.specs.Copies.{shared_rules, fresh_copies}
use Rattle.flow_block.specs.Jobs.{fresh_jobs}

-- a block with these ports and so many lanes, and with rows of this size if it is a batch, which made nothing yet; messages are
-- counted from 1 on
abbrev pub fresh_block : BlockKind → (lanes size : ℕ) → List PortState → List LinkRule → BlockState
fresh_block kind lanes size ports rules = record {
  kind = kind;
  size = size;
  ports = ports;
  exits = fresh_outlet (shared_rules kind rules) 1;
  copies = fresh_copies kind rules;
  jobs = fresh_jobs lanes;
  recorded = [];
  fault = None;
  stopped = None;
}

-- the weights of what was put and is not told as room, with the weight of what it copies
abbrev pub weight_out : OutletState → ℕ → ℕ
weight_out exits copied = exits.room + weight_of exits.groups + copied

-- the port gave out room for what waits there, and so much more
abbrev pub GaveOut : ℕ → PortState → Type 0
GaveOut weight port = cond (is_some port.capacity) (length port.waiting + weight) 0 ≤ port.load

abbrev pub AllGaveOut : ℕ → List PortState → Type 0
AllGaveOut weight [] = Unit {0}
AllGaveOut weight (port ∷ ports) = GaveOut weight port × AllGaveOut weight ports

pub record BlockFits (ports : List PortState) (exits : OutletState) (copied : ℕ) : Type 0 where
  pub room : AllGaveOut (weight_out exits copied) ports
  pub few : weight_out exits 0 < 2 ^ 32
