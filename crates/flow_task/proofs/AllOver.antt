-- That the links of a block are over is found end by end; and the last mark of a block that has stopped says so.
use Rattle.std.proofs.Common.{◌≡◌, ℕ, ◌<◌, Bool, true, false, List, [], ◌∷◌, is_some, Result, refl, ap, sym, ◌∙◌}
use Rattle.std.proofs.lemmas.Bool.{false_from_ne_true}
use Rattle.std.proofs.Math.Bool.{Bool-set}
use Rattle.std.proofs.Math.Logic.{∥∥₁_elim}
use Rattle.flow_value.specs.declared.value.Value.{Value}
use Rattle.flow_link.specs.Lists.{every, below, is_empty}
use Rattle.flow_link.proofs.ListTests.{passes_below}
use Rattle.flow_link.specs.declared.trace.Mark.{Mark}
use Rattle.flow_link.specs.declared.trace.Mark.TheVariants.{Took, Gave, Complete, Fault, Done}
use Rattle.flow_link.specs.Layout.{Layout}
use Rattle.flow_lawful.specs.Endings.{stops}
use Rattle.flow_block.specs.Node.{NodeState}
use Rattle.flow_block_law.specs.NodeLaw.{NodeLaw, outcome_in}
use Rattle.flow_task.specs.Turns.{IsOver, ends_stopped, is_stop}

-- one that fails
pub fails_below : (test : ℕ → Bool) (count k : ℕ) → k < count → test k ≡ false → every test (below count) ≡ false
fails_below test count k small here =
    false_from_ne_true (every test (below count)) (λ all. let passes = passes_below test count k all small in cc)

later_over : (mark : Mark) (marks : List Mark) → ends_stopped marks ≡ true → ends_stopped (mark ∷ marks) ≡ true
later_over mark [] over = absurd (cc)
later_over mark (next ∷ marks) over = over

last_over : (mark : Mark) (marks : List Mark) → is_empty marks ≡ true → is_stop mark ≡ true → ends_stopped (mark ∷ marks) ≡ true
last_over mark [] last stop = stop
last_over mark (next ∷ marks) last stop = absurd (cc)

-- where nothing follows the mark by which a block stopped
stop_is_last : (journal : List Mark) → stops journal ≡ true → is_some (outcome_in journal) ≡ true → ends_stopped journal ≡ true
stop_is_last [] last stopped = absurd (cc)
stop_is_last (Took p l value ∷ marks) last stopped = later_over (Took p l value) marks (stop_is_last marks last stopped)
stop_is_last (Gave l value ∷ marks) last stopped = later_over (Gave l value) marks (stop_is_last marks last stopped)
stop_is_last (Complete p ∷ marks) last stopped = later_over (Complete p) marks (stop_is_last marks last stopped)
stop_is_last (Fault number ∷ marks) last stopped = last_over (Fault number) marks last refl
stop_is_last (Done ∷ marks) last stopped = last_over Done marks last refl

pub over_where_stopped : {W : Type 0} (layout : Layout W) (meaning : ℕ → Value → Result (List Value) ℕ) (b : ℕ) (node : NodeState)
    → ∥ NodeLaw layout meaning b node ∥₁ → is_some node.block.stopped ≡ true → IsOver node.journal
over_where_stopped layout meaning b node law stopped =
    ∥∥₁_elim law (Bool-set _ _) (λ l. stop_is_last node.journal l.marks.last (sym (ap is_some l.ends.stopped_is) ∙ stopped))
