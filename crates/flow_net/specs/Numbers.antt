-- The numbers of faults: where no input ends by fault 0, no block does, since no work means such a fault.
use Rattle.std.specs.Prelude.{◌≡◌, ◌≢◌, ℕ, true, false, List, length, count_by, Result, Err}
use Rattle.flow_value.specs.declared.value.Value.{Value}
use Rattle.flow_value.specs.declared.work.WorkFault.{WorkFault}
use Rattle.flow_link.specs.Layout.{Layout}
use Rattle.flow_link.specs.Lists.{every}
use Rattle.flow_link.specs.Trace.{InputTrace, has_fault, marks_of}
use Rattle.flow_core.specs.Events.{NetEvent}
use Rattle.flow_core.specs.Keeps.{IsRun}
use Rattle.flow_link.specs.Posted.{ends_by_number}
use Rattle.flow_core.specs.State.{NetState, fresh_net}
use Rattle.flow_core.specs.Statements.{Goes}
use Rattle.flow_exec.specs.Works.{works_of}
use Rattle.flow_net.specs.Net.{run_with}

module _ (W : Type 0) (meaning : W → Value → Result (List Value) WorkFault) where
  -- what the blocks' works mean of a value is never fault 0
  abbrev pub WorksFaultByNumber : Type 0
  WorksFaultByNumber = (layout : Layout W) (b : ℕ) (value : Value) → works_of meaning layout b value ≢ Err 0

  -- and no block ends by it, whatever events are asked for
  abbrev pub BlocksFaultByNumber : Type 0
  BlocksFaultByNumber =
      (layout : Layout W) (posted : List InputTrace) (events : List NetEvent) (now : NetState) → IsRun layout
      → length posted ≡ count_by (λ block. block.input) layout.blocks → every ends_by_number posted ≡ true
      → Goes layout (works_of meaning layout) events (fresh_net layout posted) now
      → (b : ℕ) → has_fault 0 (marks_of (run_with meaning layout now) b) ≡ false
