-- A block that would make something by itself has not ended.
use Rattle.std.proofs.Common.{◌≡◌, Bool, true, false, not, ◌&&◌, length, None, is_none}
use Rattle.std.proofs.lemmas.Bool.{and_parts}
use Rattle.flow_link.specs.Plan.{has_work, is_broadcast}
use Rattle.flow_outlet.specs.Outlet.{is_empty}
use Rattle.flow_spread.specs.Spread.{is_spread_free}
use Rattle.flow_block.specs.Block.{BlockState, held_by}
use Rattle.flow_block.specs.Peeks.{has_next, may_work}
use Rattle.flow_block.specs.Traits.{makes_alone, has_turn, makes_itself, outcome_of}
use Rattle.flow_link.proofs.TestsTell.{none_is}

-- a block that may work has not stopped
pub working_goes_on : (block : BlockState) → may_work block ≡ true → outcome_of block ≡ None
working_goes_on block works =
    let both = and_parts (is_none block.stopped && is_none block.fault) (has_next block) works in
    none_is block.stopped (and_parts (is_none block.stopped) (is_none block.fault) both.0).0

turn_goes_on : (block : BlockState) (broadcast : Bool) → has_turn broadcast block ≡ true → outcome_of block ≡ None
turn_goes_on block true turn =
    let outer = and_parts (is_none block.stopped && not (is_empty (held_by block))) (is_spread_free block.copies) turn in
    none_is block.stopped (and_parts (is_none block.stopped) (not (is_empty (held_by block))) outer.0).0
turn_goes_on block false turn =
    working_goes_on block (and_parts (may_work block) (not (has_work block.kind)) turn).0

pub making_goes_on : (block : BlockState) → makes_itself block ≡ true → outcome_of block ≡ None
making_goes_on block e =
    let both = and_parts (makes_alone block.kind (length block.ports)) (has_turn (is_broadcast block.kind) block) e in
    turn_goes_on block (is_broadcast block.kind) both.1
