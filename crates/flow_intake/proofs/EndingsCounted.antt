-- Completion, or a fault, was seen exactly where some end counts that has seen it.
use Rattle.std.proofs.Common.{◌≡◌, ℕ, ◌+◌, ◌<◌, Bool, true, false, ◌||◌, cond, ltb, nat_lt, List, [], ◌∷◌, length, get_or}
use Rattle.std.proofs.Common.{drop, Option, Some, None, is_some, refl, ap, sym, ◌∙◌, add-one, drop-cons, arith}
use Rattle.std.proofs.lemmas.Bool.{lt-ltb, ltb-true, ltb-false}
use Rattle.flow_link.specs.declared.stage.TargetStage.{TargetStage}
use Rattle.flow_link.specs.declared.stage.TargetStage.TheVariants.{Ended}
use Rattle.flow_intake.specs.Port.{EndState, count_at, is_coming}
use Rattle.flow_intake.specs.Ended.{is_completion, has_seen_completion, fault_seen, has_seen_fault}
use Rattle.flow_intake.specs.Ended.{came_over, fault_over, of_lower_link, fault_at_ends}

counted_first : (first : Bool) (count : ℕ) (later : Bool) → nat_lt 0 count ≡ later
    → nat_lt 0 (cond first 1 0 + count) ≡ (first || later)
counted_first true count later e = lt-ltb 0 (1 + count) (omega arith)
counted_first false count later e = let same : 0 + count ≡ count = omega arith in rw same e

pub completion_counted : (ends : List EndState) → nat_lt 0 (count_at is_completion ends) ≡ has_seen_completion ends
completion_counted [] = refl
completion_counted (end ∷ ends) =
    counted_first (is_completion end.stage) (count_at is_completion ends) (has_seen_completion ends)
    (completion_counted ends)

some_came : (link : ℕ) (seen : Option ℕ) → is_some (came_over link seen) ≡ is_some seen
some_came link (Some number) = refl
some_came link None = refl

some_of_lower : (one later : Option (ℕ × ℕ)) → is_some (of_lower_link one later) ≡ (is_some one || is_some later)
some_of_lower (Some one) (Some later) = refl
some_of_lower (Some one) None = refl
some_of_lower None later = refl

pub fault_counted : (ends : List EndState) → nat_lt 0 (count_at has_seen_fault ends) ≡ is_some (fault_at_ends ends)
fault_counted [] = refl
fault_counted (end ∷ ends) =
    counted_first (has_seen_fault end.stage) (count_at has_seen_fault ends) (is_some (fault_at_ends ends))
    (fault_counted ends)
    ∙ sym (some_of_lower (fault_over end) (fault_at_ends ends)
    ∙ ap (λ (seen : Bool). seen || is_some (fault_at_ends ends)) (some_came end.link (fault_seen end.stage)))

none_where_not_some : (one : Option (ℕ × ℕ)) → false ≡ is_some one → None ≡ one
none_where_not_some (Some number) none = absurd (cc)
none_where_not_some None none = refl

pub none_where_not_counted : (ends : List EndState) → count_at has_seen_fault ends ≡ 0 → None ≡ fault_at_ends ends
none_where_not_counted ends none = none_where_not_some (fault_at_ends ends) (rw none at (fault_counted ends))

-- the fault over the link with the lowest number from a place on
pub fault_from : (ends : List EndState) (place : ℕ) (end : EndState) → place < length ends → end ≡ get_or ends place end
    → fault_at_ends (drop place ends) ≡ of_lower_link (fault_over end) (fault_at_ends (drop (place + 1) ends))
fault_from ends place end below there = rw (drop-cons ends place end below, ← there, add-one) refl

-- of three the lowest, in whichever order two are compared
lowest_of_three : (first second third : ℕ × ℕ)
    → of_lower_link (of_lower_link (Some first) (Some second)) (Some third)
    ≡ of_lower_link (Some first) (of_lower_link (Some second) (Some third))
lowest_of_three first second third =
    by_two (ltb second.0 first.0) (ltb third.0 second.0) (ltb third.0 first.0) refl refl refl
  where
    by_two : (a b c : Bool) → ltb second.0 first.0 ≡ a → ltb third.0 second.0 ≡ b → ltb third.0 first.0 ≡ c
        → of_lower_link (of_lower_link (Some first) (Some second)) (Some third)
        ≡ of_lower_link (Some first) (of_lower_link (Some second) (Some third))
    by_two true true c second_first third_second third_first =
        let less : ltb third.0 first.0 ≡ true =
        lt-ltb third.0 first.0 (omega (arith, ltb-true second.0 first.0 second_first, ltb-true third.0 second.0 third_second)) in
        rw (second_first, third_second, less) refl
    by_two true false c second_first third_second third_first =
        rw (second_first, third_second, second_first) refl
    by_two false true c second_first third_second third_first = rw (second_first, third_second) refl
    by_two false false true second_first third_second third_first =
        absurd (omega (
          arith,
          ltb-false second.0 first.0 second_first,
          ltb-false third.0 second.0 third_second,
          ltb-true third.0 first.0 third_first,
        ))
    by_two false false false second_first third_second third_first =
        rw (second_first, third_second, second_first, third_first) refl

pub lower_joins : (first second third : Option (ℕ × ℕ))
    → of_lower_link (of_lower_link first second) third ≡ of_lower_link first (of_lower_link second third)
lower_joins None second third = refl
lower_joins (Some first) None third = refl
lower_joins (Some first) (Some second) None = refl
lower_joins (Some first) (Some second) (Some third) = lowest_of_three first second third

pub lower_than_none : (fault : Option (ℕ × ℕ)) → of_lower_link fault None ≡ fault
lower_than_none (Some fault) = refl
lower_than_none None = refl

-- the link of an end whose message comes has not ended
pub coming_has_not_completed : (stage : TargetStage) → is_coming stage ≡ true → is_completion stage ≡ false
coming_has_not_completed (Ended how) comes = absurd (cc)
coming_has_not_completed stage comes = refl

pub coming_has_not_faulted : (stage : TargetStage) → is_coming stage ≡ true → has_seen_fault stage ≡ false
coming_has_not_faulted (Ended how) comes = absurd (cc)
coming_has_not_faulted stage comes = refl
