-- What becomes of the messages of a join that reserves, which a caller drives by hand, over any calls.
use Rattle.std.specs.Prelude.{◌≡◌, ℕ, ◌+◌, ◌<◌, ◌≤◌, true, List, ◌++◌, length, is_some}
use Rattle.flow_value.specs.declared.value.Value.{Value}
use Rattle.flow_link.specs.LinkOk.{IsWithin}
use Rattle.flow_link.specs.Making.{Arrival}
use Rattle.flow_intake.specs.Port.{PortState, coming}
use Rattle.flow_outlet.specs.declared.ends.LinkRule.{LinkRule}
use Rattle.flow_group.specs.declared.round.RoundStep.TheVariants as steps
use Rattle.flow_group.specs.declared.round.Source.{Source}
use Rattle.flow_group.specs.Round.{none_comes}
use Rattle.flow_group.specs.Tuple.{held_at}
use Rattle.flow_group.specs.Tuples.{TuplesLaw}
use Rattle.flow_block.specs.Block.{port_at}
use Rattle.flow_kinds.specs.ReservingCalls.{Learns, Acts, Gives, Takes}
use Rattle.flow_kinds.specs.ReservingJoin.{ReservingState, ReservingFits, fresh_join}
use Rattle.flow_history.specs.Calls.{Call, MayCall, MayCallInOrder, Fits, Step, AllDone, after_all}
use Rattle.flow_history.specs.History.{History, nothing_yet, took_at, given, came_by, made_by, history_of, gave_by}
use Rattle.flow_history.specs.Kept.{NothingCame}

abbrev pub MayCallReserving : Call → ReservingState → Type 0
MayCallReserving call join = MayCall call join.block

abbrev pub MayCallReservingInOrder : Call → ReservingState → Type 0
MayCallReservingInOrder call join = MayCallInOrder call join.block

abbrev pub DoesToReserving : Call → ReservingState → ReservingState → Type 0
DoesToReserving (Call.acts call) old new = Acts old call new
DoesToReserving (Call.gives call) old new = Gives old call new
DoesToReserving (Call.takes call) old new = Takes old call new
DoesToReserving Call.asked old new = Learns old new

-- facts of each join that reserves
pub record FitsReserving (join : ReservingState) : Type 0 where
  pub fits : Fits join.block
  pub in_order : ReservingFits join.block join.round

abbrev pub came_into : Call → ReservingState → List Arrival
came_into call join = came_by call join.block

abbrev pub tuples_by : Call → ReservingState → List Value
tuples_by call join = made_by call join.block

-- no port took more than one message more than another; none did unless messages are claimed, nor where nothing comes
pub record TookLevel (took : ℕ → List Value) (join : ReservingState) : Type 0 where
  pub near : (p q : ℕ) → p < length join.block.ports → q < length join.block.ports → length (took p) ≤ length (took q) + 1
  pub same : (join.round.step ≡ steps.Claims → ⊥) → (p q : ℕ) → p < length join.block.ports → q < length join.block.ports
      → length (took p) ≡ length (took q)
  pub still : none_comes join.block.ports ≡ true → (p q : ℕ) → p < length join.block.ports → q < length join.block.ports
      → length (took p) ≡ length (took q)

pub record KeepsReserved (history : History) (join : ReservingState) : Type 0 where
  -- each tuple is given once, in order, or is left
  pub shared : history.made ≡ given history.gave ++ join.block.exits.left
  -- what was taken is the tuples, each with a message of each port, in order, and what is held
  pub tuples : TuplesLaw (length join.block.ports) (took_at history) history.made (held_at join.block.ports)
  pub level : TookLevel (took_at history) join
  -- what it holds at a port, the tuples that it has left, and what comes there fit into the capacity, where its ports have one
  pub within : is_some (port_at 0 join.block).capacity ≡ true → (p : ℕ) → p < length join.block.ports
      → IsWithin (port_at p join.block).capacity
      (length (port_at p join.block).waiting + length join.block.exits.left + coming (port_at p join.block))

-- over any calls, from a join that reserves to which nothing came
pub record ReservedAreKept : Type 0 where
  pub each : (ports : List PortState) (sources : List Source) (rules : List LinkRule) → NothingCame ports
      → FitsReserving (fresh_join ports sources rules)
      → (steps : List (Step Call ReservingState))
      → AllDone FitsReserving MayCallReservingInOrder DoesToReserving steps (fresh_join ports sources rules)
      → KeepsReserved (history_of came_into tuples_by gave_by steps (fresh_join ports sources rules) nothing_yet)
      (after_all steps (fresh_join ports sources rules))
