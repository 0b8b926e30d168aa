-- Wires are made and unmade one by one.
use Rattle.std.proofs.Common.{◌≡◌, ◌⊎◌, ℕ, zero, suc, ◌+◌, ◌<◌, ◌≤◌, inl, inr, Bool, true, false, List, [], ◌∷◌, ◌++◌, length, map, take, slice_index_or, refl, sym, ap, ◌∙◌, subst, length-append, arith, ⊎_elim}
use Rattle.std.proofs.Math.Seq.{take-append_seam}
use Rattle.std.proofs.lemmas.List.{map-append, length-map, same_from_push, get_or_push, get_or-take, take-take}
use Rattle.atomic_table.specs.Seated.{TableId}
use Rattle.flow_value.specs.declared.value.Value.{Value}
use Rattle.flow_link.specs.Lists.{below}
use Rattle.flow_link.proofs.ListTests.{below_more}
use Rattle.flow_link.specs.declared.phase.Phase.{Phase}
use Rattle.flow_link.specs.declared.phase.Phase.TheVariants.{Idle, Given, Opened}
use Rattle.flow_link.specs.declared.trace.LinkState.{LinkState}
use Rattle.flow_link.specs.LinkOk.{LinkOk, StandAt}
use Rattle.flow_link.specs.Views.{SourceStage, TargetStage}
use Rattle.flow_wire.specs.Ends.{Start, SourceOf, TargetOf, starts_out, starts_in, is_crossing}
use Rattle.flow_wire.specs.Sides.{SourceSide, TargetSide}
use Rattle.flow_task.proofs.Places.{at_place}
use Rattle.flow_task.specs.Wired.{AreSeated, AreWired, OneMore, IsReady, source_side, target_side, source_table, target_table}

module _ (starts : ℕ → Start) where
  -- one more
  module _ {V E : Type 0} (side : E → V) (known : ℕ → V) where
    know_more : (n : ℕ) (ends : List E) (end : E) → map side ends ≡ map known (below n) → side end ≡ known n
        → map side (ends ++ end ∷ []) ≡ map known (below (n + 1))
    know_more n ends end know is =
        map-append side ends (end ∷ [])
        ∙ ap (λ (xs : List V). xs ++ side end ∷ []) know
        ∙ ap (λ (v : V). map known (below n) ++ v ∷ []) is
        ∙ sym (map-append known (below n) (n ∷ []))
        ∙ ap (map known) (sym (below_more n))

  pub one_more : (n : ℕ) (w w' : List TableId) (s s' : List SourceOf) (t t' : List TargetOf) → AreWired starts n w s t
      → OneMore (starts n) w w' s s' t t' → AreWired starts (n + 1) w' s' t'
  one_more n w w' s s' t t' wired more = record {
    count = ap length more.wires_are ∙ length-append w (more.table ∷ []) ∙ ap (λ (m : ℕ). m + 1) wired.count;
    sources_know = ap (map source_side) more.sources_are
        ∙ know_more source_side (λ l. starts_out (starts l)) n s _ wired.sources_know refl;
    targets_know = ap (map target_side) more.targets_are
        ∙ know_more target_side (λ l. starts_in (starts l)) n t _ wired.targets_know refl;
    seated = record {
      sources_are = ap (map source_table) more.sources_are ∙ map-append source_table s _
          ∙ ap (λ (xs : List TableId). xs ++ more.table ∷ []) wired.seated.sources_are ∙ sym more.wires_are;
      targets_are = ap (map target_table) more.targets_are ∙ map-append target_table t _
          ∙ ap (λ (xs : List TableId). xs ++ more.table ∷ []) wired.seated.targets_are ∙ sym more.wires_are;
    };
  }

  -- what an end knows
  pub source_knows : (n : ℕ) (w : List TableId) (s : List SourceOf) (t : List TargetOf) → AreWired starts n w s t → (l : ℕ) (d : SourceOf) → l < n
      → (slice_index_or s l d).side ≡ starts_out (starts l)
  source_knows n w s t wired l d low = at_place source_side (λ k. starts_out (starts k)) n s l d wired.sources_know low

  pub target_knows : (n : ℕ) (w : List TableId) (s : List SourceOf) (t : List TargetOf) → AreWired starts n w s t → (l : ℕ) (e : TargetOf) → l < n
      → (slice_index_or t l e).side ≡ starts_in (starts l)
  target_knows n w s t wired l e low = at_place target_side (λ k. starts_in (starts k)) n t l e wired.targets_know low

-- As many ends as wires

pub source_count : (w : List TableId) (s : List SourceOf) (t : List TargetOf) → AreSeated w s t → length s ≡ length w
source_count w s t seated = sym (length-map s source_table) ∙ ap length seated.sources_are

pub target_count : (w : List TableId) (s : List SourceOf) (t : List TargetOf) → AreSeated w s t → length t ≡ length w
target_count w s t seated = sym (length-map t target_table) ∙ ap length seated.targets_are

-- The last of them

module _ (w : List TableId) (table : TableId) (s : List SourceOf) (source : SourceOf) (t : List TargetOf) (target : TargetOf)
    (seated : AreSeated (w ++ table ∷ []) (s ++ source ∷ []) (t ++ target ∷ [])) where
  source_seats : map source_table s ++ source.table ∷ [] ≡ w ++ table ∷ []
  source_seats = sym (map-append source_table s (source ∷ [])) ∙ seated.sources_are

  target_seats : map target_table t ++ target.table ∷ [] ≡ w ++ table ∷ []
  target_seats = sym (map-append target_table t (target ∷ [])) ∙ seated.targets_are

  pub one_less : AreSeated w s t
  one_less = record {
    sources_are = (same_from_push (map source_table s) w source.table table source_seats).0;
    targets_are = (same_from_push (map target_table t) w target.table table target_seats).0;
  }

-- where nothing crossed at one phase, nothing crosses at another
crossing_free : (phase : Phase) (s : SourceStage) (t : TargetStage Value) → StandAt phase s t → is_crossing phase ≡ true → s ≡ SourceStage.crossing
crossing_free (Given i) SourceStage.crossing t stands e = refl
crossing_free (Given i) SourceStage.free t stands e = absurd stands
crossing_free (Given i) _ t stands e = absurd stands
crossing_free (Opened i) SourceStage.crossing t stands e = refl
crossing_free (Opened i) SourceStage.free t stands e = absurd stands
crossing_free (Opened i) _ t stands e = absurd stands
crossing_free _ s t stands e = absurd (cc)

home_target : (phase : Phase) (t : TargetStage Value) → StandAt phase SourceStage.crossing t → is_crossing phase ≡ false → t ≡ TargetStage.free
home_target Idle TargetStage.free stands e = refl
home_target Idle _ stands e = absurd stands
home_target (Given i) t stands e = absurd (cc)
home_target (Opened i) t stands e = absurd (cc)
home_target _ t stands e = absurd stands

never_free : (phase : Phase) → StandAt {V = Value} phase SourceStage.crossing TargetStage.free → is_crossing phase ≡ true → ⊥
never_free (Given i) stands e = stands
never_free (Opened i) stands e = stands
never_free _ stands e = absurd (cc)

by_test : (b : Bool) → (b ≡ true → ⊥) → b ≡ false
by_test true never = absurd (never refl)
by_test false never = refl

pub still_home : (one other : Phase) (s : SourceStage) (t : TargetStage Value) → StandAt one s t → StandAt other s t → is_crossing one ≡ false
    → is_crossing other ≡ false
still_home one other s t stands there home =
    by_test (is_crossing other) (λ crosses.
    let at = crossing_free other s t there crosses in
    let free = home_target one t (subst (λ (x : SourceStage). StandAt one x t) at stands) home in
    never_free other (subst (λ (x : TargetStage Value). StandAt other SourceStage.crossing x) free
    (subst (λ (x : SourceStage). StandAt other x t) at there)) crosses)

-- a wire that is closed gives its link back as ready as it was
module _ (start : Start) (first : LinkState) (was : IsReady start first) (source : SourceOf) (target : TargetOf) (closed : LinkState)
    (knows : source.side ≡ starts_out start) (known : target.side ≡ starts_in start)
    (ok : LinkOk source.side.facts closed.phase closed.slot source.side.view target.side.view) where
  at_start : LinkOk start.facts closed.phase closed.slot start.source start.target
  at_start =
      subst (λ (side : TargetSide). LinkOk start.facts closed.phase closed.slot start.source side.view) known
      (subst (λ (side : SourceSide). LinkOk side.facts closed.phase closed.slot side.view target.side.view) knows ok)

  pub ready_again : IsReady start closed
  ready_again = record {
    in_order = at_start;
    empty = still_home first.phase closed.phase start.source.stage start.target.stage was.in_order.stages at_start.stages was.empty;
    home = was.home;
  }

-- A first part of a list whose last element leaves

module _ {A : Type 0} (n : ℕ) (all rest : List A) (x : A) (split : take n all ≡ rest ++ x ∷ []) (count : n ≡ length rest + 1) where
  pub left_is : rest ≡ take (length rest) all
  left_is =
      sym (take-append_seam rest (x ∷ [])) ∙ ap (take (length rest)) (sym split) ∙ take-take (length rest) n all (omega (arith, count))

  pub last_is : (d : A) → x ≡ slice_index_or all (length rest) d
  last_is d =
      sym (get_or_push rest x d (length rest) refl)
      ∙ ap (λ (xs : List A). slice_index_or xs (length rest) d) (sym split)
      ∙ get_or-take n all (length rest) d (omega (arith, count))

-- a list that is not empty has a first element
pub first_of : {A : Type 0} (xs : List A) → 0 < length xs → A
first_of [] some = absurd (omega (arith, some))
first_of (x ∷ xs) some = x

-- a number is below another, or not
pub below_or_from : (l n : ℕ) → (l < n) ⊎ (n ≤ l)
below_or_from l zero = inr (omega arith)
below_or_from zero (suc n) = inl (omega arith)
below_or_from (suc l) (suc n) =
    ⊎_elim (λ (low : l < n). inl (omega (arith, low))) (λ (from : n ≤ l). inr (omega (arith, from))) (below_or_from l n)
