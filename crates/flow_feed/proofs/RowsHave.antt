-- Whether a row has each text that it must have, one after another.
use Rattle.std.proofs.Common.{◌≡◌, Bool, true, false, not, refl, ◌<◌, ◌≤◌, ◌+◌, ℕ, zero, suc, List, [], ◌∷◌, length, take, get_or, arith, subst, sym, OnOk, Result, Ok, Err}
use Rattle.std.proofs.lemmas.List.{take_all}
use Rattle.flow_feed.specs.declared.choice.Test.{Test}
use Rattle.flow_feed.specs.Sends.{HasAll, column_text}

module _ (fields : List (List ℕ)) (digits : List ℕ) where
  abbrev HasThis : Test → Type 0
  HasThis test = column_text fields digits test.column ≡ test.text.now

  more : (tests : List Test) (at : ℕ) (default : Test) → at < length tests → HasThis (get_or tests at default)
      → HasAll fields digits (take at tests) → HasAll fields digits (take (suc at) tests)
  more [] at default within same before = absurd (omega arith)
  more (test ∷ tests) zero default within same before = (same, tt)
  more (test ∷ tests) (suc at) default within same before = (before.0, more tests at default (omega arith) same before.1)

  each : (tests : List Test) (at : ℕ) (default : Test) → at < length tests → HasAll fields digits tests → HasThis (get_or tests at default)
  each [] at default within all = absurd (omega arith)
  each (test ∷ tests) zero default within all = all.0
  each (test ∷ tests) (suc at) default within all = each tests at default (omega arith) all.1

  -- with one text more
  pub has_more : (tests read : List Test) (at : ℕ) (default : Test) → read ≡ tests → at < length read → HasThis (get_or read at default)
      → HasAll fields digits (take at tests) → HasAll fields digits (take (at + 1) tests)
  has_more tests read at default is within same before =
      let next : suc at ≡ at + 1 = omega arith in
      let low : at < length tests = subst (λ (all : List Test). at < length all) is within in
      let here : HasThis (get_or tests at default) = subst (λ (all : List Test). HasThis (get_or all at default)) is same in
      subst (λ (count : ℕ). HasAll fields digits (take count tests)) next (more tests at default low here before)

  -- a row that has all has each
  pub has_each : (tests read : List Test) (at : ℕ) (default : Test) → read ≡ tests → at < length read → HasAll fields digits tests
      → HasThis (get_or read at default)
  has_each tests read at default is within all =
      let back : tests ≡ read = sym is in
      each read at default within (subst (λ (all : List Test). HasAll fields digits all) back all)

  -- a row that has as many as there are has all
  pub has_all : (tests : List Test) (at : ℕ) → length tests ≤ at → HasAll fields digits (take at tests) → HasAll fields digits tests
  has_all tests at over before = subst (λ (sent : List Test). HasAll fields digits sent) (take_all at tests over) before

-- what holds is not denied, whatever the answer
pub on_ok_never : {T E Has : Type 0} (Left : Type 0) (result : Result T E) → Has → OnOk result ((Has → ⊥) → Left)
on_ok_never Left (Ok _) has = λ lacks. absurd (lacks has)
on_ok_never Left (Err _) has = tt

pub never : {P : Type 0} → true ≡ false → P
never e = absurd (cc)

pub was_true : (b : Bool) → not b ≡ false → b ≡ true
was_true true e = refl
was_true false e = cc
