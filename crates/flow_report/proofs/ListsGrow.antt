-- How a printed list grows by the values of one more mark.
use Rattle.std.proofs.Common.{◌≡◌, ◌<◌, ◌+◌, ℕ, List, [], ◌∷◌, ◌++◌, length, take, get_or, refl, ap, sym, ◌∙◌, Option, Some, None, Bool, true, false, cond, subst}
use Rattle.std.proofs.lemmas.List.{append-nil, take_more}
use Rattle.std.specs.Io.KnownBytes.{Appends, append_known}
use Rattle.flow_value.specs.declared.value.Value.{Value}
use Rattle.flow_link.specs.declared.trace.Mark.{Mark}
use Rattle.flow_link.specs.Lists.{is_empty}
use Rattle.flow_link.specs.declared.trace.Mark.TheVariants.{Took, Gave, Complete, Fault, Done}
use Rattle.flow_link.specs.Trace.{took_where, gave_where}
use Rattle.flow_link.proofs.JournalsGrow.{took_more, gave_more}
use Rattle.flow_report.specs.Printed.{value_text, comma_unless, opened, list_text}
use Rattle.flow_report.proofs.PrintedGrows.{appends-both, opened-more}

-- a list with a value behind it has values
pub not-empty : (values more : List Value) (v : Value) → more ≡ values ++ v ∷ [] → false ≡ is_empty more
not-empty [] more v is = rw is refl
not-empty (_ ∷ values) more v is = rw is refl

pub opened-next : (values more : List Value) (v : Value) (first : Bool) (old mid new : Option (List ℕ)) → more ≡ values ++ v ∷ [] → first ≡ is_empty values
    → Appends old mid (opened values) → Appends mid new (comma_unless first ++ value_text v) → Appends old new (opened more)
opened-next values more v first old mid new is start before last =
    let P : Bool → Type 0 = λ b. Appends mid new (comma_unless b ++ value_text v) in
    let next : P (is_empty values) = subst P start last in
    rw (is, opened-more values v) (appends-both old mid new _ _ before next)

-- the last bracket, and the page is written
pub list-closed : (old mid new last : Option (List ℕ)) (page rest : List ℕ) (values : List Value) → Appends (append_known old []) (append_known mid page) (opened values)
    → Appends (append_known mid page) (append_known new rest) (93 ∷ []) → Appends new last rest → Appends old last (list_text values)
list-closed old mid new last page rest values before bracket written =
    ends old new last (appends-both (append_known old []) (append_known mid page) (append_known new rest) (opened values) (93 ∷ []) before bracket) written
  where
    ends : (old new last : Option (List ℕ)) → Appends (append_known old []) (append_known new rest) (list_text values) → Appends new last rest → Appends old last (list_text values)
    ends None new last all end = tt
    ends (Some xs) None last all end = absurd all
    ends (Some xs) (Some ys) None all end = absurd end
    ends (Some xs) (Some ys) (Some zs) all end = end ∙ all ∙ ap (λ front. front ++ list_text values) (append-nil xs)

-- the items of a list one by one
pub take-next : {A : Type 0} (xs : List A) (at : ℕ) (x : A) → at < length xs → x ≡ get_or xs at x → take (at + 1) xs ≡ take at xs ++ x ∷ []
take-next xs at x within is = take_more xs at x within ∙ ap (λ last. take at xs ++ last ∷ []) (sym is)

in-front : (b : Bool) (value : Value) (values : List Value) → cond b (value ∷ values) values ≡ cond b (value ∷ []) [] ++ values
in-front true value values = refl
in-front false value values = refl

-- what the first mark picks stands in front
pub taken-first : (test : ℕ → ℕ → Bool) (mark : Mark) (marks : List Mark) → took_where test (mark ∷ marks) ≡ took_where test (mark ∷ []) ++ took_where test marks
taken-first test (Took port link value) marks = in-front (test port link) value (took_where test marks)
taken-first test (Gave _ _) marks = refl
taken-first test (Complete _) marks = refl
taken-first test (Fault _) marks = refl
taken-first test Done marks = refl

pub given-first : (test : ℕ → Bool) (mark : Mark) (marks : List Mark) → gave_where test (mark ∷ marks) ≡ gave_where test (mark ∷ []) ++ gave_where test marks
given-first test (Gave link value) marks = in-front (test link) value (gave_where test marks)
given-first test (Took _ _ _) marks = refl
given-first test (Complete _) marks = refl
given-first test (Fault _) marks = refl
given-first test Done marks = refl

-- what one more mark of a journal took
pub taken-next : (journal : List Mark) (at : ℕ) (mark : Mark) → at < length journal → mark ≡ get_or journal at mark
    → (test : ℕ → ℕ → Bool) → took_where test (take (at + 1) journal) ≡ took_where test (take at journal) ++ took_where test (mark ∷ [])
taken-next journal at mark within is test = ap (took_where test) (take-next journal at mark within is) ∙ took_more test (take at journal) mark

-- and what it gave
pub given-next : (journal : List Mark) (at : ℕ) (mark : Mark) → at < length journal → mark ≡ get_or journal at mark
    → (test : ℕ → Bool) → gave_where test (take (at + 1) journal) ≡ gave_where test (take at journal) ++ gave_where test (mark ∷ [])
given-next journal at mark within is test = ap (gave_where test) (take-next journal at mark within is) ∙ gave_more test (take at journal) mark
