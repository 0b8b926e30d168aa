-- What a port answers, and whom it serves next.
use Rattle.std.proofs.Common.{◌≡◌, ℕ, zero, suc, ◌+◌, ◌<◌, ◌≤◌, Bool, true, false, ◌&&◌, cond, List, [], ◌∷◌, Option, Some, None, is_some, refl, arith}
use Rattle.std.proofs.lemmas.Bool.{and_parts}
use Rattle.flow_value.specs.declared.message.MessageStatus.TheVariants.{Accepted, Declined, Postponed, DecliningPermanently}
use Rattle.flow_link.specs.declared.stage.Refusal.{Refusal}
use Rattle.flow_link.specs.Lists.{is_empty}
use Rattle.flow_intake.specs.Port.{PortState, coming, has_room, is_below, end_in, link_in}
use Rattle.flow_intake.specs.Calls.{answer_where, answer_to, next_where, first_of}
use Rattle.flow_intake.specs.PortLaw.{InLaw}
use Rattle.flow_intake.specs.Profile.{TakesAtOnce, AnswersTell, OldestFirst, RoomAddsUp}
use Rattle.flow_intake.specs.PortExamples.{any_link, full, PortExamples}

-- the answer, when there is nothing to put off
record Takes (refusing : Option Refusal) (reserves free : Bool) : Type 0 where
  pub goes_on : refusing ≡ None
  pub freely : reserves ≡ false
  pub is_free : free ≡ true

taken_where : (refusing : Option Refusal) (reserves free may_postpone : Bool)
    → answer_where refusing reserves free (cond may_postpone Postponed Declined) ≡ Accepted → Takes refusing reserves free
taken_where (Some _) reserves free may_postpone is = absurd (cc)
taken_where None true free true is = absurd (cc)
taken_where None true free false is = absurd (cc)
taken_where None false true may_postpone is = record { goes_on = refl; freely = refl; is_free = refl }
taken_where None false false true is = absurd (cc)
taken_where None false false false is = absurd (cc)

nobody_in : (queue : List ℕ) → is_empty queue ≡ true → queue ≡ []
nobody_in [] is = refl
nobody_in (_ ∷ _) is = absurd (cc)

accepts_so : (may_postpone : Bool) (port : PortState) → answer_to may_postpone port ≡ Accepted → TakesAtOnce port
accepts_so may_postpone port is =
    let takes = taken_where port.refusing port.reserves (has_room port && is_empty port.queue) may_postpone is in
    let both = and_parts (has_room port) (is_empty port.queue) takes.is_free in
    record { goes_on = takes.goes_on; freely = takes.freely; room = both.0; nobody = nobody_in port.queue both.1 }

accepts_then : (may_postpone : Bool) (port : PortState) → TakesAtOnce port → answer_to may_postpone port ≡ Accepted
accepts_then may_postpone port takes = rw (takes.goes_on, takes.freely, takes.room, takes.nobody) refl

declines_where : (refusing : Option Refusal) (reserves free may_postpone : Bool)
    → answer_where refusing reserves free (cond may_postpone Postponed Declined) ≡ DecliningPermanently → is_some refusing ≡ true
declines_where (Some _) reserves free may_postpone is = refl
declines_where None true free true is = absurd (cc)
declines_where None true free false is = absurd (cc)
declines_where None false true may_postpone is = absurd (cc)
declines_where None false false true is = absurd (cc)
declines_where None false false false is = absurd (cc)

declines_then : (refusing : Option Refusal) (reserves free may_postpone : Bool) → is_some refusing ≡ true
    → answer_where refusing reserves free (cond may_postpone Postponed Declined) ≡ DecliningPermanently
declines_then (Some _) reserves free may_postpone is = refl
declines_then None reserves free may_postpone is = absurd (cc)

put_off_where : (reserves free may_postpone : Bool) → ¬ Takes None reserves free
    → answer_where None reserves free (cond may_postpone Postponed Declined) ≡ cond may_postpone Postponed Declined
put_off_where true free may_postpone not = refl
put_off_where false false may_postpone not = refl
put_off_where false true may_postpone not = absurd (not (record { goes_on = refl; freely = refl; is_free = refl }))

pub answers_tell : AnswersTell
answers_tell = record {
  declining = λ may_postpone port. (
    declines_where port.refusing port.reserves (has_room port && is_empty port.queue) may_postpone,
    declines_then port.refusing port.reserves (has_room port && is_empty port.queue) may_postpone,
  );
  accepted = λ may_postpone port. (accepts_so may_postpone port, accepts_then may_postpone port);
  put_off = λ port goes not. (put_off port goes not true, put_off port goes not false);
}
  where
    put_off : (port : PortState) → port.refusing ≡ None → ¬ TakesAtOnce port → (may_postpone : Bool) → answer_to may_postpone port ≡ cond may_postpone Postponed Declined
    put_off port goes not may_postpone =
        rw goes (put_off_where port.reserves (has_room port && is_empty port.queue) may_postpone (λ takes.
        let both = and_parts (has_room port) (is_empty port.queue) takes.is_free in
        not (record { goes_on = goes; freely = takes.freely; room = both.0; nobody = nobody_in port.queue both.1 })))

-- whom it serves
record Next (refusing : Option Refusal) (reserves room : Bool) (first : Option ℕ) (place : ℕ) : Type 0 where
  pub goes_on : refusing ≡ None
  pub freely : reserves ≡ false
  pub is_room : room ≡ true
  pub is_first : first ≡ Some place

next_is : (refusing : Option Refusal) (reserves room : Bool) (first : Option ℕ) (place : ℕ) → next_where refusing reserves room first ≡ Some place → Next refusing reserves room first place
next_is None false true first place is = record { goes_on = refl; freely = refl; is_room = refl; is_first = is }
next_is None false false first place is = absurd (cc)
next_is None true room first place is = absurd (cc)
next_is (Some _) reserves room first place is = absurd (cc)

first_in : (queue : List ℕ) (place : ℕ) → first_of queue ≡ Some place → (rest : List ℕ) × (queue ≡ place ∷ rest)
first_in [] place is = absurd (cc)
first_in (first ∷ rest) place is = (rest, cc)

pub oldest_first : OldestFirst
oldest_first = record {
  oldest = λ port place is.
      let next = next_is port.refusing port.reserves (has_room port) (first_of port.queue) place is in
      (record { goes_on = next.goes_on; freely = next.freely; room = next.is_room }, first_in port.queue place next.is_first);
  served = λ port place rest may waits. rw (may.goes_on, may.freely, may.room, waits) refl;
}

-- room
below_is : (count : ℕ) (limit : Option ℕ) (capacity : ℕ) → limit ≡ Some capacity → (is_below count limit ≡ true → count < capacity) × (count < capacity → is_below count limit ≡ true)
below_is count limit capacity is = (λ room. let test = rw is at room in grind arith, λ less. rw is (grind arith))

pub room_adds_up : RoomAddsUp
room_adds_up = record {
  within = λ facts taken port capacity law is. rw is at law.room;
  room = λ port capacity is. below_is (port.load + coming port) port.capacity capacity is;
}

-- the examples
each_full : (place : ℕ) → place < 2 → InLaw (any_link (link_in place full.ends)) 0 full.refusing full.queue place (end_in place full.ends)
each_full zero below = record { queued = refl; hand = refl; refused = λ e. absurd (cc); coming = λ e. refl; put_off = λ e. absurd (cc) }
each_full (suc zero) below = record {
  queued = refl;
  hand = refl;
  refused = λ e. absurd (cc);
  coming = λ e. absurd (cc);
  put_off = λ e. record { not_steady = refl; not_the_first = λ sole. absurd (cc) };
}
each_full (suc (suc place)) below = absurd (omega arith)

pub port_examples : PortExamples
port_examples = record {
  full_is_in_order = record { each = each_full; distinct = (refl, tt); known = (omega arith, tt); room = omega arith; waits = λ there. omega arith; took = omega arith };
  over_capacity_is_not = λ law. let room : 2 ≤ 1 = law.room in omega arith;
  forgotten_is_not = λ law. let there = (law.each 0 (omega arith)).queued in absurd (cc);
  too_late_is_not = λ law. let going = (law.each 0 (omega arith)).coming refl in absurd (cc);
  put_off_freely_is_not = λ law. let may = (law.each 0 (omega arith)).put_off refl in let steady = may.not_steady in absurd (cc);
}
