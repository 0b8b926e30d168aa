-- What one more mark changes.
use Rattle.std.proofs.Common.{◌≡◌, ℕ, cond, Bool, true, false, List, [], ◌∷◌, ◌++◌, refl, ap}
use Rattle.flow_value.specs.declared.value.Value.{Value}
use Rattle.flow_link.specs.declared.trace.Mark.{Mark}
use Rattle.flow_link.specs.declared.trace.Mark.TheVariants.{Took, Gave, Complete, Fault, Done}
use Rattle.flow_link.specs.Trace.{took_where, gave_where}
use Rattle.flow_link.specs.JournalGrows.{taken_by_mark, given_by_mark, JournalsGrow}

-- a value in front stays in front
one_in_front : (b : Bool) (value : Value) (all first last : List Value) → all ≡ first ++ last
    → cond b (value ∷ all) all ≡ cond b (value ∷ first) first ++ last
one_in_front true value all first last e = ap (λ vs. value ∷ vs) e
one_in_front false value all first last e = e

pub took_more : (test : ℕ → ℕ → Bool) (marks : List Mark) (mark : Mark)
    → took_where test (marks ++ mark ∷ []) ≡ took_where test marks ++ taken_by_mark test mark
took_more test [] mark = refl
took_more test (Took port link value ∷ marks) mark =
    one_in_front (test port link) value (took_where test (marks ++ mark ∷ [])) (took_where test marks) (taken_by_mark test mark) (took_more test marks mark)
took_more test (Gave _ _ ∷ marks) mark = took_more test marks mark
took_more test (Complete _ ∷ marks) mark = took_more test marks mark
took_more test (Fault _ ∷ marks) mark = took_more test marks mark
took_more test (Done ∷ marks) mark = took_more test marks mark

pub gave_more : (test : ℕ → Bool) (marks : List Mark) (mark : Mark)
    → gave_where test (marks ++ mark ∷ []) ≡ gave_where test marks ++ given_by_mark test mark
gave_more test [] mark = refl
gave_more test (Gave link value ∷ marks) mark =
    one_in_front (test link) value (gave_where test (marks ++ mark ∷ [])) (gave_where test marks) (given_by_mark test mark) (gave_more test marks mark)
gave_more test (Took _ _ _ ∷ marks) mark = gave_more test marks mark
gave_more test (Complete _ ∷ marks) mark = gave_more test marks mark
gave_more test (Fault _ ∷ marks) mark = gave_more test marks mark
gave_more test (Done ∷ marks) mark = gave_more test marks mark

pub journals_grow : JournalsGrow
journals_grow = record { took_more = took_more; gave_more = gave_more }
