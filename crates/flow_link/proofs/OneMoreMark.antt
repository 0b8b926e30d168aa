-- What one more mark changes of what a journal says.
use Rattle.std.proofs.Common.{◌≡◌, ℕ, Bool, true, false, ◌||◌, List, [], ◌∷◌, ◌++◌, ◌⊎◌, refl, ap, ◌∙◌, inl, inr, ⊎_elim, append-nil}
use Rattle.std.proofs.lemmas.Bool.{and_from, and_parts, or_left, or_right, or_cases, or_from}
use Rattle.flow_value.specs.declared.value.Value.{Value}
use Rattle.flow_link.specs.declared.trace.Mark.{Mark}
use Rattle.flow_link.specs.declared.trace.Mark.TheVariants.{Took, Gave}
use Rattle.flow_link.specs.JournalGrows.{taken_by_mark, given_by_mark}
use Rattle.flow_link.specs.Lists.{every, some}
use Rattle.flow_link.specs.Trace.{took, gave}
use Rattle.flow_link.proofs.JournalsGrow.{took_more, gave_more}

-- a test of one more element
pub every_more : {A : Type 0} (test : A → Bool) (xs : List A) (x : A) → every test xs ≡ true → test x ≡ true → every test (xs ++ x ∷ []) ≡ true
every_more test [] x all last = and_from (test x) true last refl
every_more test (y ∷ ys) x all last =
    let both = and_parts (test y) (every test ys) all in
    and_from (test y) (every test (ys ++ x ∷ [])) both.0 (every_more test ys x both.1 last)

-- a mark that passes among those before, or as the last
pub some_before : {A : Type 0} (test : A → Bool) (xs : List A) (x : A) → some test xs ≡ true → some test (xs ++ x ∷ []) ≡ true
some_before test [] x e = absurd (cc)
some_before test (y ∷ ys) x e =
    let rest = some test (ys ++ x ∷ []) in
    ⊎_elim (λ here. or_left (test y) rest here) (λ later. or_right (test y) rest (some_before test ys x later)) (or_cases (test y) (some test ys) e)

pub some_of_more : {A : Type 0} (test : A → Bool) (xs : List A) (x : A) → some test (xs ++ x ∷ []) ≡ true → (some test xs ≡ true) ⊎ (test x ≡ true)
some_of_more test [] x e = ⊎_elim (λ here. inr here) (λ none. absurd (cc)) (or_cases (test x) false e)
some_of_more test (y ∷ ys) x e =
    ⊎_elim
    (λ here. inl (or_left (test y) (some test ys) here))
    (λ later. ⊎_elim (λ is. inl (or_right (test y) (some test ys) is)) (λ is. inr is) (some_of_more test ys x later))
    (or_cases (test y) (some test (ys ++ x ∷ [])) e)

-- a mark that does not pass a test

pub some_no_more : (test : Mark → Bool) (marks : List Mark) (mark : Mark) → test mark ≡ false → some test (marks ++ mark ∷ []) ≡ some test marks
some_no_more test [] mark none = or_from (test mark) false none refl
some_no_more test (first ∷ marks) mark none = ap (λ (b : Bool). test first || b) (some_no_more test marks mark none)

-- a mark that takes or gives nothing
pub took_no_more : (marks : List Mark) (mark : Mark) → taken_by_mark (λ port link. true) mark ≡ [] → took (marks ++ mark ∷ []) ≡ took marks
took_no_more marks mark none =
    took_more (λ port link. true) marks mark ∙ ap (λ (vs : List Value). took marks ++ vs) none ∙ append-nil (took marks)

pub gave_no_more : (marks : List Mark) (mark : Mark) → given_by_mark (λ link. true) mark ≡ [] → gave (marks ++ mark ∷ []) ≡ gave marks
gave_no_more marks mark none =
    gave_more (λ link. true) marks mark ∙ ap (λ (vs : List Value). gave marks ++ vs) none ∙ append-nil (gave marks)

-- what was taken and given
pub took_by_took : (marks : List Mark) (p l : ℕ) (v : Value) → took (marks ++ Took p l v ∷ []) ≡ took marks ++ v ∷ []
took_by_took marks p l v = took_more (λ port link. true) marks (Took p l v)

pub gave_by_took : (marks : List Mark) (p l : ℕ) (v : Value) → gave (marks ++ Took p l v ∷ []) ≡ gave marks
gave_by_took marks p l v = gave_more (λ link. true) marks (Took p l v) ∙ append-nil (gave marks)

pub took_by_gave : (marks : List Mark) (l : ℕ) (v : Value) → took (marks ++ Gave l v ∷ []) ≡ took marks
took_by_gave marks l v = took_more (λ port link. true) marks (Gave l v) ∙ append-nil (took marks)

pub gave_by_gave : (marks : List Mark) (l : ℕ) (v : Value) → gave (marks ++ Gave l v ∷ []) ≡ gave marks ++ v ∷ []
gave_by_gave marks l v = gave_more (λ link. true) marks (Gave l v)
