-- What each call keeps is kept over any calls.
use Rattle.std.proofs.Common.{List, [], ◌∷◌}
use Rattle.flow_value.specs.declared.value.Value.{Value}
use Rattle.flow_link.specs.Making.{Arrival}
use Rattle.flow_history.specs.Calls.{Step, AllDone, after_all}
use Rattle.flow_history.specs.History.{Gift, History, noted, history_of}

module _ {C S : Type 0} (Fit : S → Type 0) (May : C → S → Type 0) (Do : C → S → S → Type 0) where
  -- a fact of each state
  pub fits_after : (steps : List (Step C S)) (old : S) → Fit old → AllDone Fit May Do steps old → Fit (after_all steps old)
  fits_after [] old fits done = fits
  fits_after (step ∷ steps) old fits done = fits_after steps step.left done.1.1.0 done.1.1.1

  -- what holds of a state and its history
  module _ (came : C → S → List Arrival) (makes : C → S → List Value) (gives : C → List Gift) (Keeps : History → S → Type 0)
      (one : (h : History) (old new : S) → Keeps h old → Fit old → (call : C) → May call old → Do call old new
      → Keeps (noted came makes gives call old h) new) where
    pub all_kept : (steps : List (Step C S)) (old : S) (h : History) → Fit old → AllDone Fit May Do steps old → Keeps h old
        → Keeps (history_of came makes gives steps old h) (after_all steps old)
    all_kept [] old h fits done kept = kept
    all_kept (step ∷ steps) old h fits done kept =
        all_kept steps step.left (noted came makes gives step.call old h) done.1.1.0 done.1.1.1
        (one h old step.left kept fits step.call done.0 done.1.0)
