-- A join that reserves as plain data: its block, and how far its round is.
use Rattle.std.specs.Prelude.{◌≡◌, ℕ, ◌<◌, Bool, true, List, length}
use Rattle.std.specs.List.{list_all}
use Rattle.flow_link.specs.declared.draft.BlockKind.TheVariants as kind
use Rattle.flow_link.specs.Layout.{Layout}
use Rattle.flow_link.specs.Lists.{is_empty}
use Rattle.flow_intake.specs.Port.{PortState}
use Rattle.flow_outlet.specs.declared.ends.LinkRule.{LinkRule}
use Rattle.flow_group.specs.declared.round.RoundStep.TheVariants as steps
use Rattle.flow_group.specs.declared.round.Source.{Source}
use Rattle.flow_group.specs.Round.{RoundState, port_in}
use Rattle.flow_block.specs.Block.{BlockState}
use Rattle.flow_block.specs.BlockFits.{fresh_block}
use Rattle.flow_block.specs.Planned.{planned_block, fresh_node}
use Rattle.flow_kinds.specs.RoundOrder.{RoundFits}

pub record ReservingState : Type 0 where
  pub block : BlockState
  pub round : RoundState

abbrev pub joined : BlockState → RoundState → ReservingState
joined block round = record { block = block; round = round }

-- each port puts off what is offered, and consumes nothing by itself
abbrev pub all_reserve : List PortState → Bool
all_reserve ports = list_all (λ (port : PortState). port.reserves) ports

-- no offer waits at any port
abbrev pub none_queued : List PortState → Bool
none_queued ports = list_all (λ (port : PortState). is_empty port.queue) ports

-- what holds of each, whatever is called
pub record ReservingFits (block : BlockState) (round : RoundState) : Type 0 where
  pub kind_is : block.kind ≡ kind.Join
  pub reserves : (p : ℕ) → p < length block.ports → (port_in block.ports p).reserves ≡ true
  pub rounds : RoundFits round block.ports

abbrev pub fresh_join : List PortState → List Source → List LinkRule → ReservingState
fresh_join ports sources rules = record {
  block = fresh_block kind.Join 1 0 ports rules;
  round = record { sources = sources; step = steps.Asks };
}

-- a join of a plan that reserves, which has asked for nothing
abbrev pub planned_join : {W : Type 0} → Layout W → ℕ → ReservingState
planned_join layout b = record { block = planned_block layout b; round = (fresh_node layout b).round }
