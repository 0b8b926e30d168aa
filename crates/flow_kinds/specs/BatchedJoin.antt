-- A batched join as plain data: its block, and of each message that is in no group yet the port at which it came in.
use Rattle.std.specs.Prelude.{◌≡◌, ℕ, ◌≤◌, List, [], length, map, get_or}
use Rattle.flow_link.specs.declared.draft.BlockKind.TheVariants as kind
use Rattle.flow_link.specs.Layout.{Layout}
use Rattle.flow_intake.specs.Port.{PortState}
use Rattle.flow_outlet.specs.declared.ends.LinkRule.{LinkRule}
use Rattle.flow_group.specs.Group.{ArrivalsState, came_at}
use Rattle.flow_block.specs.Block.{BlockState}
use Rattle.flow_block.specs.BlockFits.{fresh_block}
use Rattle.flow_block.specs.JournalFits.{ports_due}
use Rattle.flow_block.specs.Planned.{planned_block}

pub record JoinState : Type 0 where
  pub block : BlockState
  -- oldest first
  pub order : List ℕ

-- how many messages wait at each port
abbrev pub waits : List PortState → List ℕ
waits ports = map (λ (port : PortState). length port.waiting) ports

-- of each port as many messages are in no group as wait there
abbrev pub Tells : List ℕ → List ℕ → Type 0
Tells order waiting = (p : ℕ) → came_at p order ≡ get_or waiting p 0

-- what holds of each, whatever is called: the order is that of the messages that wait, and memory is set aside to note each that
-- may come
pub record JoinFits (block : BlockState) (order : ArrivalsState) : Type 0 where
  pub kind_is : block.kind ≡ kind.BatchedJoin
  pub tells : Tells order.ports (waits block.ports)
  pub room : ports_due block.ports ≤ order.room

abbrev pub fresh_join : ℕ → List PortState → List LinkRule → JoinState
fresh_join size ports rules = record { block = fresh_block kind.BatchedJoin 1 size ports rules; order = [] }

-- a batched join of a plan, to which no message came
abbrev pub planned_join : {W : Type 0} → Layout W → ℕ → JoinState
planned_join layout b = record { block = planned_block layout b; order = [] }
