-- The numbers of faults: where no work faults by number 0 and no input ends by it, no block does.
use Rattle.std.specs.Prelude.{◌≡◌, ◌≢◌, ℕ, true, false, List, length, count_by, Err}
use Rattle.flow_value.specs.declared.value.Value.{Value}
use Rattle.flow_link.specs.Lists.{every}
use Rattle.flow_link.specs.Trace.{InputTrace, has_fault, marks_of}
use Rattle.flow_link.specs.Posted.{ends_by_number}
use Rattle.flow_core.specs.Events.{NetEvent}
use Rattle.flow_core.specs.State.{NetState, run_of_net, fresh_net}
use Rattle.flow_core.specs.Statements.{OfEachNet, Goes}

module _ (W : Type 0) where
  -- where no work faults by number 0 and no input ends by it, no block ends by it, whatever events are asked for
  abbrev pub BlocksFaultByNumber : Type 0
  BlocksFaultByNumber = OfEachNet W λ layout meaning.
      ((b : ℕ) (value : Value) → meaning b value ≢ Err 0)
      → (posted : List InputTrace) (events : List NetEvent) (now : NetState)
      → length posted ≡ count_by (λ block. block.input) layout.blocks
      → every ends_by_number posted ≡ true
      → Goes layout meaning events (fresh_net layout posted) now
      → (b : ℕ) → has_fault 0 (marks_of (run_of_net layout meaning now) b) ≡ false
