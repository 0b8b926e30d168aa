-- What the answer to an event says that is no job's: that it is done.
use Rattle.std.proofs.Common.{◌≡◌, Bool}
use Rattle.flow_link.specs.Layout.{Layout}
use Rattle.flow_core.specs.State.{NetState}
use Rattle.flow_net.specs.Events.{Answers, IsOfJob, IsOfOwnJob}
use Rattle.flow_net.specs.declared.event.Event.{Event}
use Rattle.flow_net.specs.declared.event.Event.TheVariants.{Begin, End}
use Rattle.flow_net.specs.declared.event.Stepped.{Stepped}
use Rattle.flow_net.specs.declared.event.Stepped.TheVariants.{Moved, Began}

module _ {W : Type 0} (equal : W → W → Bool) (layout : Layout W) (net : NetState) where
  pub done_answers : {w : _} {e : _} (event : Event W w e) (stepped : Stepped W) → (IsOfJob event → ⊥) → stepped ≡ Moved
      → Answers equal layout net event stepped
  done_answers (Begin b) stepped driven is = absurd (driven tt)
  done_answers (End b done) stepped driven is = absurd (driven tt)
  done_answers _ Moved driven is = tt
  done_answers _ (Began job) driven is = absurd (cc)

  -- and no result came back
  pub no_result : {w : _} {e : _} (event : Event W w e) → (IsOfJob event → ⊥) → IsOfOwnJob equal layout net event
  no_result (End b done) driven = absurd (driven tt)
  no_result _ driven = tt
