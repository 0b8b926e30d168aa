-- What a block took, made and gave over a list of calls.
use Rattle.std.specs.Prelude.{ℕ, ◌==◌, cond, true, List, [], ◌∷◌, ◌++◌, map, take, Option, Some, None, Ok}
use Rattle.flow_value.specs.declared.value.Value.{Value}
use Rattle.flow_link.specs.BlockCalls.{BlockCall}
use Rattle.flow_link.specs.Making.{Arrival, arrived_at}
use Rattle.flow_link.specs.SourceCalls.{SourceCall}
use Rattle.flow_link.specs.TargetCalls.{TargetCall}
use Rattle.flow_group.specs.Groups.{arrival_at}
use Rattle.flow_intake.specs.ByLink.{arrives}
use Rattle.flow_block.specs.Block.{BlockState, held_by, copies_at_once}
use Rattle.flow_block.specs.Traits.{made_next, port_into, with_port_of}
use Rattle.flow_history.specs.Calls.{Call, Step}

-- a message that was given, with its link
pub record Gift : Type 0 where
  pub link : ℕ
  pub value : Value

pub record History : Type 0 where
  -- what came in, over all ports, each with its port
  pub came : List Arrival
  pub made : List Value
  -- what was given, over all links
  pub gave : List Gift

abbrev pub nothing_yet : History
nothing_yet = record { came = []; made = []; gave = [] }

-- what was taken at a port
abbrev pub took_at : History → ℕ → List Value
took_at history p = arrived_at p history.came

-- what was given over all links, and over one
abbrev pub given : List Gift → List Value
given gifts = map (λ (gift : Gift). gift.value) gifts

abbrev pub given_over : ℕ → List Gift → List Value
given_over link [] = []
given_over link (gift ∷ gifts) = cond (gift.link == link) (gift.value ∷ given_over link gifts) (given_over link gifts)

-- By one call

abbrev pub came_by : Call → BlockState → List Arrival
came_by (Call.takes (TargetCall.handed link header value)) block = arrival_at (port_into link block.ports) value ∷ []
came_by _ block = []

-- a block that takes one message in all copies it when it comes
abbrev pub copied_at_once : BlockState → List Value
copied_at_once block = cond (copies_at_once block) (take 1 (held_by block)) []

abbrev pub made_by : Call → BlockState → List Value
made_by (Call.acts (BlockCall.made (Ok true))) block = made_next block
made_by (Call.takes (TargetCall.handed link header value)) block = copied_at_once (with_port_of link (arrives link value) block)
made_by _ block = []

abbrev pub gifts_of : ℕ → Option Value → List Gift
gifts_of link None = []
gifts_of link (Some value) = record { link = link; value = value } ∷ []

abbrev pub gave_by : Call → List Gift
gave_by (Call.gives (SourceCall.consumed link header value)) = gifts_of link value
gave_by _ = []

-- Over all calls

module _ {C S : Type 0} (came : C → S → List Arrival) (makes : C → S → List Value) (gives : C → List Gift) where
  abbrev pub noted : C → S → History → History
  noted call state history = record {
    came = history.came ++ came call state;
    made = history.made ++ makes call state;
    gave = history.gave ++ gives call;
  }

  abbrev pub history_of : List (Step C S) → S → History → History
  history_of [] state history = history
  history_of (step ∷ steps) state history = history_of steps step.left (noted step.call state history)
