-- What is told of the end of a block is what the last of its marks says.
use Rattle.std.proofs.Common.{◌≡◌, ℕ, true, List, [], ◌∷◌, Option, Some, None, is_some, IfSome, Result, refl, sym, ap, ◌∙◌, eqb-true, subst}
use Rattle.std.proofs.Math.Logic.{∥∥₁_elim}
use Rattle.std.proofs.Math.Nat.{ℕ_set}
use mathlib.Core.Sum.{⊎_set}
use Rattle.flow_value.specs.declared.value.Value.{Value}
use Rattle.flow_link.specs.Lists.{is_empty}
use Rattle.flow_link.specs.declared.trace.Mark.{Mark}
use Rattle.flow_link.specs.declared.trace.Mark.TheVariants.{Took, Gave, Complete, Fault, Done}
use Rattle.flow_link.specs.declared.trace.Outcome.{Outcome}
use Rattle.flow_link.specs.declared.trace.Outcome.TheVariants as outcome
use Rattle.flow_link.specs.Layout.{Layout}
use Rattle.flow_lawful.specs.Endings.{stops}
use Rattle.flow_block.specs.Node.{NodeState}
use Rattle.flow_block_law.specs.NodeLaw.{NodeLaw, outcome_in, stops_at}
use Rattle.once_cell.specs.Once.{Agrees}
use Rattle.flow_task.specs.Cells.{is_same_end, is_told, last_outcome}
use Rattle.flow_task.specs.Turns.{IsOver, ends_stopped, is_stop}

same_end_so : (one other : Outcome) → is_same_end one other ≡ true → one ≡ other
same_end_so outcome.Done outcome.Done e = refl
same_end_so (outcome.Faulted one) (outcome.Faulted other) e = ap (λ (n : ℕ). outcome.Faulted n) (eqb-true one other e)
same_end_so outcome.Done (outcome.Faulted other) e = absurd (cc)
same_end_so (outcome.Faulted one) outcome.Done e = absurd (cc)

told_so : (known how : Option Outcome) → is_told known how ≡ true → known ≡ how
told_so (Some one) (Some other) e = ap (λ (end : Outcome). Some end) (same_end_so one other e)
told_so (Some one) None e = absurd (cc)
told_so None how e = absurd (cc)

later_last : (mark : Mark) (marks : List Mark) (how : Outcome) → last_outcome marks ≡ Some how → last_outcome (mark ∷ marks) ≡ Some how
later_last mark [] how e = absurd (cc)
later_last mark (next ∷ marks) how e = e

alone_last : (mark : Mark) (marks : List Mark) → is_empty marks ≡ true → last_outcome (mark ∷ marks) ≡ stops_at mark
alone_last mark [] none = refl
alone_last mark (next ∷ marks) none = absurd (cc)

-- where nothing follows the mark by which a block stopped
last_of_stop : (journal : List Mark) (how : Outcome) → stops journal ≡ true → outcome_in journal ≡ Some how → last_outcome journal ≡ Some how
last_of_stop [] how last stopped = absurd (cc)
last_of_stop (Took p l value ∷ marks) how last stopped = later_last (Took p l value) marks how (last_of_stop marks how last stopped)
last_of_stop (Gave l value ∷ marks) how last stopped = later_last (Gave l value) marks how (last_of_stop marks how last stopped)
last_of_stop (Complete p ∷ marks) how last stopped = later_last (Complete p) marks how (last_of_stop marks how last stopped)
last_of_stop (Fault number ∷ marks) how last stopped = alone_last (Fault number) marks last ∙ stopped
last_of_stop (Done ∷ marks) how last stopped = alone_last Done marks last ∙ stopped

Outcome-set : IsSet (Option Outcome)
Outcome-set = hlevel (ℕ_set, ⊎_set)

same_last : (known how : Option Outcome) (journal : List Mark) → is_told known how ≡ true → stops journal ≡ true → how ≡ outcome_in journal
    → known ≡ last_outcome journal
same_last (Some one) how journal told last is =
    let said : Some one ≡ outcome_in journal = told_so (Some one) how told ∙ is in
    sym (last_of_stop journal one last (sym said))
same_last None how journal told last is = absurd (cc)

pub told_is_last : {W : Type 0} (layout : Layout W) (meaning : ℕ → Value → Result (List Value) ℕ) (b : ℕ) (node : NodeState)
    (known : Option Outcome) → ∥ NodeLaw layout meaning b node ∥₁ → is_told known node.block.stopped ≡ true
    → known ≡ last_outcome node.journal
told_is_last layout meaning b node known law told =
    ∥∥₁_elim law (Outcome-set known (last_outcome node.journal)) (λ l.
    same_last known node.block.stopped node.journal told l.marks.last l.ends.stopped_is)

-- a block of which it is told has stopped
pub stopped_where_told : (known how : Option Outcome) → is_told known how ≡ true → is_some how ≡ true
stopped_where_told (Some one) (Some other) told = refl
stopped_where_told (Some one) None told = absurd (cc)
stopped_where_told None how told = absurd (cc)

-- the last mark of a block that is over says how
stop_has_end : (mark : Mark) → is_stop mark ≡ true → is_some (stops_at mark) ≡ true
stop_has_end (Fault number) e = refl
stop_has_end Done e = refl
stop_has_end (Took p l value) e = absurd (cc)
stop_has_end (Gave l value) e = absurd (cc)
stop_has_end (Complete p) e = absurd (cc)

over_has_end : (journal : List Mark) → ends_stopped journal ≡ true → is_some (last_outcome journal) ≡ true
over_has_end [] e = absurd (cc)
over_has_end (mark ∷ []) e = stop_has_end mark e
over_has_end (mark ∷ next ∷ marks) e = over_has_end (next ∷ marks) e

-- what a watch knows is that, where it knows what the task knows
pub agree : (known told : Option Outcome) (journal : List Mark) (how : Outcome) → IsOver journal → told ≡ last_outcome journal
    → IfSome told (Agrees known) → known ≡ Some how → last_outcome journal ≡ Some how
agree known (Some end) journal how over is agrees knows =
    let same : how ≡ end = subst (λ (found : Option Outcome). Agrees found end) knows agrees in
    sym is ∙ ap (λ (outcome : Outcome). Some outcome) (sym same)
agree known None journal how over is agrees knows =
    absurd (let some = ap is_some is ∙ over_has_end journal over in cc)
