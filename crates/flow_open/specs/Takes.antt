-- What receivers are given: what was received at their exits, once and in order.
use Rattle.std.specs.Prelude.{◌≡◌, List, ◌++◌}
use Rattle.std.specs.List.{FoldsTo}
use Rattle.flow_value.specs.declared.value.Value.{Value}
use Rattle.flow_board.specs.Parts.{exit_state}
use Rattle.flow_task.specs.declared.numbered.Exit.{Exit}
use Rattle.flow_open.specs.Pairs.{EachPair}

module _ {F : Type 0} (takes : F → Value → F → Type 0) where
  -- a receiver was called with these values, one call after another, and they are what was received since
  pub record Takes (old : List Value) (from : F) (new : List Value) (to : F) : Type 0 where
    pub values : List Value
    pub called : FoldsTo takes from values to
    pub received : new ≡ old ++ values

  -- each receiver at its exit, by their places
  abbrev pub EachTakes : {W : Type 0} {w : _} {e : _} → List (Exit W w e) → List F → List (Exit W w e) → List F → Type 0
  EachTakes =
      EachPair (λ exit receiver exit_then receiver_then. Takes (exit_state exit).received receiver (exit_state exit_then).received receiver_then)
