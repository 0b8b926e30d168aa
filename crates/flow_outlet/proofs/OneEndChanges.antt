-- The outlet's law stays where one end changes and keeps its own.
use Rattle.std.proofs.Common.{◌≡◌, ◌≢◌, ℕ, ◌<◌, Bool, true, List, length, set, Option, Some, sym, inl, inr, arith}
use Rattle.std.specs.Option.{ForSome}
use Rattle.std.proofs.lemmas.Bool.{cases_eq, OnTrue_from}
use Rattle.std.proofs.lemmas.List.{length-set, get_or-set_same, get_or-set_other}
use Rattle.flow_value.specs.declared.value.Value.{Value}
use Rattle.flow_link.specs.declared.trace.Outcome.{Outcome}
use Rattle.flow_outlet.specs.declared.ends.OutEnd.{OutEnd}
use Rattle.flow_outlet.specs.End.{speaks_of, is_spoken_for, end_in, no_end}
use Rattle.flow_outlet.specs.Outlet.{OutletState, head_of, end_at, stage_at}
use Rattle.flow_outlet.specs.Law.{EndLaw, OutletLaw, may_go_past}

-- here and elsewhere is everywhere
pub each_set : (P : ℕ → OutEnd → Type 0) (ends : List OutEnd) (k : ℕ) (end : OutEnd) → k < length ends → P k end
    → ((j : ℕ) → j < length ends → j ≢ k → P j (end_in ends j))
    → (j : ℕ) → j < length (set ends k end) → P j (end_in (set ends k end) j)
each_set P ends k end here at_k elsewhere j l = elim (cases_eq j k) [
  | inl same ↦ rw (same, get_or-set_same ends k end no_end here) at_k
  | inr other ↦ rw (get_or-set_other ends k j end no_end other) (elsewhere j (omega (arith, l, length-set ends k end)) other)
]

-- the end's law reads of the offer only whether it is its own
pub framed : {next : ℕ} {head : Option Value} {before : Option ℕ} {pending : Bool} {stopped : Option Outcome} {k : ℕ} {end : OutEnd}
    (offer : Option ℕ) → EndLaw next head before pending stopped k end → (is_spoken_for end.stage ≡ true → offer ≡ Some k)
    → EndLaw next head offer pending stopped k end
framed {end = end} offer law out = record {
  risen = law.risen;
  none_later = law.none_later;
  declined_before = law.declined_before;
  out = OnTrue_from (is_spoken_for end.stage) _ out;
  out_head = law.out_head;
  offers = law.offers;
  admitted = law.admitted;
  put_off = law.put_off;
  within = law.within;
  room = law.room;
  ended = law.ended;
  given_up = law.given_up;
  given_up_late = law.given_up_late;
}

-- the law stays where one end changes
module _ {pending : Bool} {stopped : Option Outcome} (o : OutletState) (law : OutletLaw pending stopped o) (k : ℕ) (here : k < length o.ends) (end : OutEnd) (offer : Option ℕ) where
  ordered : ((j : ℕ) → j < k → speaks_of o.next end.stage ≡ true → may_go_past (head_of o) (end_at o j) ≡ true)
      → (may_go_past (head_of o) (end_at o k) ≡ true → may_go_past (head_of o) end ≡ true)
      → (j i : ℕ) → j < i → i < length (set o.ends k end) → speaks_of o.next (end_in (set o.ends k end) i).stage ≡ true
      → may_go_past (head_of o) (end_in (set o.ends k end) j) ≡ true
  ordered first passes j i before there speaks = elim (cases_eq i k) [
    | inl same ↦
        let mine : speaks_of o.next end.stage ≡ true = rw (same, get_or-set_same o.ends k end no_end here) at speaks in
        let earlier : j < k = rw (sym same) before in
        rw (get_or-set_other o.ends k j end no_end (λ e. omega arith)) (first j earlier mine)
    | inr other ↦
        let old : speaks_of o.next (stage_at o i) ≡ true = rw (get_or-set_other o.ends k i end no_end other) at speaks in
        let all = law.in_order j i before (omega (arith, there, length-set o.ends k end)) old in
        elim (cases_eq j k) [
          | inl same ↦ rw (same, get_or-set_same o.ends k end no_end here) (passes (rw same at all))
          | inr elsewhere ↦ rw (get_or-set_other o.ends k j end no_end elsewhere) all
        ]
  ]

  pub one_changes : EndLaw o.next (head_of o) offer pending stopped k end
      → ((j : ℕ) → j < length o.ends → j ≢ k → is_spoken_for (stage_at o j) ≡ true → offer ≡ Some j)
      → ForSome offer (λ j. j < length o.ends)
      → ForSome offer (λ j. is_spoken_for (end_in (set o.ends k end) j).stage ≡ true)
      → (speaks_of o.next end.stage ≡ true → o.parcel ≡ head_of o)
      → ((j : ℕ) → j < k → speaks_of o.next end.stage ≡ true → may_go_past (head_of o) (end_at o j) ≡ true)
      → (may_go_past (head_of o) (end_at o k) ≡ true → may_go_past (head_of o) end ≡ true)
      → OutletLaw pending stopped (record o { ends = set o.ends k end; offer = offer })
  one_changes at_k others there out ready first passes = record {
    begins = law.begins;
    ids = law.ids;
    each = each_set (λ j e. EndLaw o.next (head_of o) offer pending stopped j e) o.ends k end here at_k
        (λ j l other. framed offer (law.each j l) (others j l other));
    offer_there = λ j e. omega (arith, there j e, length-set o.ends k end);
    offer_out = out;
    ready = each_set (λ j e. speaks_of o.next e.stage ≡ true → o.parcel ≡ head_of o) o.ends k end here ready
        (λ j l other. law.ready j l);
    in_order = ordered first passes;
  }
