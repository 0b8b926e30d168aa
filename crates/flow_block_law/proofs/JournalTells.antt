-- What a journal tells of how its block stopped, and what one more mark changes of what it tells.
use Rattle.std.proofs.Common.{◌≡◌, ℕ, ◌==◌, ltb, Bool, true, false, not, ◌&&◌, ◌||◌, cond, List, [], ◌∷◌, ◌++◌, length, Some, None, is_some, refl, ap, sym, ◌∙◌, append-nil, eq-eqb, eqb-true}
use Rattle.std.proofs.lemmas.Bool.{or_parts, or_from, not-true, and_from, and_parts, or_left, or_right}
use Rattle.flow_value.specs.declared.value.Value.{Value}
use Rattle.flow_link.specs.declared.trace.Mark.{Mark}
use Rattle.flow_link.specs.declared.trace.Mark.TheVariants.{Took, Gave, Complete, Fault, Done}
use Rattle.flow_link.specs.declared.trace.Outcome.TheVariants as outcome
use Rattle.flow_lawful.specs.Endings.{stops, completes_once}
use Rattle.flow_link.specs.JournalGrows.{taken_by_mark, given_by_mark}
use Rattle.flow_lawful.specs.Law.{is_own_mark}
use Rattle.flow_link.specs.Lists.{every, is_empty}
use Rattle.flow_link.specs.Trace.{Run, took_at, took_where, gave_where, has_complete, has_fault, has_ended, is_faulted, is_done, is_complete_mark, is_any_fault_mark, is_done_mark, ports_of}
use Rattle.flow_link.proofs.JournalsGrow.{took_more, gave_more}
use Rattle.flow_link.proofs.OneMoreMark.{some_no_more}
use Rattle.flow_link.proofs.ListTests.{or_others}
use Rattle.flow_block_law.specs.NodeLaw.{stops_at, first_stop, outcome_in}
use Rattle.flow_link.proofs.TestsTell.{none_unless}

-- How a block stopped

-- it stopped where it faulted or is done
pub stopped_tells : (marks : List Mark) → is_some (outcome_in marks) ≡ (is_faulted marks || is_done marks)
stopped_tells [] = refl
stopped_tells (Took p l v ∷ marks) = stopped_tells marks
stopped_tells (Gave l v ∷ marks) = stopped_tells marks
stopped_tells (Complete p ∷ marks) = stopped_tells marks
stopped_tells (Fault n ∷ marks) = refl
stopped_tells (Done ∷ marks) = sym (or_right (is_faulted marks) true refl)

pub fault_marked : (marks : List Mark) (n : ℕ) → outcome_in marks ≡ Some (outcome.Faulted n) → has_fault n marks ≡ true
fault_marked [] n e = absurd (cc)
fault_marked (Took p l v ∷ marks) n e = fault_marked marks n e
fault_marked (Gave l v ∷ marks) n e = fault_marked marks n e
fault_marked (Complete p ∷ marks) n e = fault_marked marks n e
fault_marked (Fault m ∷ marks) n e = or_left (m == n) (has_fault n marks) (eq-eqb m n (cc))
fault_marked (Done ∷ marks) n e = absurd (cc)

pub faulted_marked : (marks : List Mark) (n : ℕ) → outcome_in marks ≡ Some (outcome.Faulted n)
    → is_faulted marks ≡ true
faulted_marked [] n e = absurd (cc)
faulted_marked (Took p l v ∷ marks) n e = faulted_marked marks n e
faulted_marked (Gave l v ∷ marks) n e = faulted_marked marks n e
faulted_marked (Complete p ∷ marks) n e = faulted_marked marks n e
faulted_marked (Fault m ∷ marks) n e = refl
faulted_marked (Done ∷ marks) n e = absurd (cc)

pub done_marked : (marks : List Mark) → outcome_in marks ≡ Some outcome.Done → is_done marks ≡ true
done_marked [] e = absurd (cc)
done_marked (Took p l v ∷ marks) e = done_marked marks e
done_marked (Gave l v ∷ marks) e = done_marked marks e
done_marked (Complete p ∷ marks) e = done_marked marks e
done_marked (Fault n ∷ marks) e = absurd (cc)
done_marked (Done ∷ marks) e = refl

-- and where nothing follows what stops a block, its last mark is how it stopped
alone_not_done : (marks : List Mark) → is_empty marks ≡ true → is_done marks ≡ true → ⊥
alone_not_done [] alone done = cc
alone_not_done (mark ∷ marks) alone done = cc

pub done_outcome : (marks : List Mark) → stops marks ≡ true → is_done marks ≡ true
    → outcome_in marks ≡ Some outcome.Done
done_outcome [] last done = absurd (cc)
done_outcome (Fault n ∷ marks) last done = absurd (alone_not_done marks last done)
done_outcome (Done ∷ marks) last done = refl
done_outcome (Took p l v ∷ marks) last done = done_outcome marks last done
done_outcome (Gave l v ∷ marks) last done = done_outcome marks last done
done_outcome (Complete p ∷ marks) last done = done_outcome marks last done

-- A block that has not stopped

pub goes_on : (marks : List Mark) → outcome_in marks ≡ None → (is_faulted marks ≡ false) × (is_done marks ≡ false)
goes_on marks e = or_parts (is_faulted marks) (is_done marks) (sym (stopped_tells marks) ∙ ap is_some e)

pub none_stopped : (marks : List Mark) → is_faulted marks ≡ false → is_done marks ≡ false → outcome_in marks ≡ None
none_stopped marks faulted done =
    none_unless (outcome_in marks) (stopped_tells marks ∙ or_from (is_faulted marks) (is_done marks) faulted done)

pub not_faulted_so : (n : ℕ) (marks : List Mark) → outcome_in marks ≡ None → has_fault n marks ≡ false
not_faulted_so n [] e = refl
not_faulted_so n (Took p l v ∷ marks) e = not_faulted_so n marks e
not_faulted_so n (Gave l v ∷ marks) e = not_faulted_so n marks e
not_faulted_so n (Complete p ∷ marks) e = not_faulted_so n marks e
not_faulted_so n (Fault m ∷ marks) e = absurd (cc)
not_faulted_so n (Done ∷ marks) e = absurd (cc)

-- Where a port has ended

pub ended_by_complete : (p : ℕ) (marks : List Mark) → has_complete p marks ≡ true → has_ended p marks ≡ true
ended_by_complete p marks is = rw is refl

pub ended_by_fault : (p : ℕ) (marks : List Mark) → is_faulted marks ≡ true → has_ended p marks ≡ true
ended_by_fault p marks is =
    or_others (has_complete p marks) (is_faulted marks) (is_done marks) (or_left (is_faulted marks) (is_done marks) is)

pub ended_by_done : (p : ℕ) (marks : List Mark) → is_done marks ≡ true → has_ended p marks ≡ true
ended_by_done p marks is =
    or_others (has_complete p marks) (is_faulted marks) (is_done marks)
    (or_right (is_faulted marks) (is_done marks) is)

-- a block that stopped takes nothing any more, at any port
pub stopped_ends : (p : ℕ) (marks : List Mark) → is_some (outcome_in marks) ≡ true → has_ended p marks ≡ true
stopped_ends p marks e =
    or_others (has_complete p marks) (is_faulted marks) (is_done marks) (sym (stopped_tells marks) ∙ e)

-- where a port has not ended, nothing has
pub open_tells : (p : ℕ) (marks : List Mark) → has_ended p marks ≡ false
    → (outcome_in marks ≡ None) × (has_complete p marks ≡ false)
open_tells p marks e =
    let outer = or_parts (has_complete p marks || is_faulted marks) (is_done marks) e in
    let inner = or_parts (has_complete p marks) (is_faulted marks) outer.0 in
    (none_stopped marks inner.1 outer.1, inner.0)

-- where a port has ended, and the block goes on, the port is complete
pub complete_where : (p : ℕ) (marks : List Mark) → outcome_in marks ≡ None → has_ended p marks ≡ true
    → has_complete p marks ≡ true
complete_where p marks going e =
    let none = goes_on marks going in
    by_first (has_complete p marks) (is_faulted marks) (is_done marks) none.0 none.1 e
  where
    by_first : (a b c : Bool) → b ≡ false → c ≡ false → (a || b || c) ≡ true → a ≡ true
    by_first true b c eb ec e = refl
    by_first false b c eb ec e = absurd (cc)

-- a port of a block that goes on has ended just where it has completed
same_tests : (a b : Bool) → (a ≡ true → b ≡ true) → (b ≡ true → a ≡ true) → a ≡ b
same_tests true b there back = sym (there refl)
same_tests false true there back = back refl
same_tests false false there back = refl

pub ended_is_complete : (p : ℕ) (marks : List Mark) → outcome_in marks ≡ None → has_ended p marks ≡ has_complete p marks
ended_is_complete p marks going =
    same_tests (has_ended p marks) (has_complete p marks) (complete_where p marks going) (ended_by_complete p marks)

-- Marks of a block's own

-- a test that passes for the marks that do not end, and for those that end and are there
pub every_mark : (test : Mark → Bool) (marks : List Mark)
    → ((p l : ℕ) (v : Value) → test (Took p l v) ≡ true)
    → ((l : ℕ) (v : Value) → test (Gave l v) ≡ true)
    → test Done ≡ true
    → ((p : ℕ) → has_complete p marks ≡ true → test (Complete p) ≡ true)
    → ((n : ℕ) → has_fault n marks ≡ true → test (Fault n) ≡ true)
    → every test marks ≡ true
every_mark test [] tk gv dn cm ft = refl
every_mark test (Took p l v ∷ marks) tk gv dn cm ft =
    and_from (test (Took p l v)) (every test marks) (tk p l v) (every_mark test marks tk gv dn cm ft)
every_mark test (Gave l v ∷ marks) tk gv dn cm ft =
    and_from (test (Gave l v)) (every test marks) (gv l v) (every_mark test marks tk gv dn cm ft)
every_mark test (Done ∷ marks) tk gv dn cm ft =
    and_from (test Done) (every test marks) dn (every_mark test marks tk gv dn cm ft)
every_mark test (Complete p ∷ marks) tk gv dn cm ft =
    and_from (test (Complete p)) (every test marks) (cm p (or_left (p == p) (has_complete p marks) (eq-eqb p p refl)))
    (every_mark test marks tk gv dn (λ q e. cm q (or_right (p == q) (has_complete q marks) e)) ft)
every_mark test (Fault n ∷ marks) tk gv dn cm ft =
    and_from (test (Fault n)) (every test marks) (ft n (or_left (n == n) (has_fault n marks) (eq-eqb n n refl)))
    (every_mark test marks tk gv dn cm (λ m e. ft m (or_right (n == m) (has_fault m marks) e)))

-- a port that completes is one of the block's
pub complete_own : {W : Type 0} (run : Run W) (b p : ℕ) (marks : List Mark) → every (is_own_mark run b) marks ≡ true
    → has_complete p marks ≡ true → ltb p (length (ports_of run b)) ≡ true
complete_own run b p [] own e = absurd (cc)
complete_own run b p (Complete port ∷ marks) own e =
    let both = and_parts (ltb port (length (ports_of run b))) (every (is_own_mark run b) marks) own in
    by_port (port == p) refl both.0 (complete_own run b p marks both.1) e
  where
    by_port : (same : Bool) → (port == p) ≡ same → ltb port (length (ports_of run b)) ≡ true
        → (has_complete p marks ≡ true → ltb p (length (ports_of run b)) ≡ true)
        → same || has_complete p marks ≡ true → ltb p (length (ports_of run b)) ≡ true
    by_port true is mine later e =
        ap (λ (q : ℕ). ltb q (length (ports_of run b))) (sym (eqb-true port p is)) ∙ mine
    by_port false is mine later e = later e
complete_own run b p (Took q l v ∷ marks) own e =
    complete_own run b p marks (and_parts (is_own_mark run b (Took q l v)) (every (is_own_mark run b) marks) own).1 e
complete_own run b p (Gave l v ∷ marks) own e =
    complete_own run b p marks (and_parts (is_own_mark run b (Gave l v)) (every (is_own_mark run b) marks) own).1 e
complete_own run b p (Fault n ∷ marks) own e = complete_own run b p marks own e
complete_own run b p (Done ∷ marks) own e = complete_own run b p marks own e

-- One more mark

pub outcome_more : (marks : List Mark) (mark : Mark) → outcome_in marks ≡ None
    → outcome_in (marks ++ mark ∷ []) ≡ first_stop (stops_at mark) None
outcome_more [] mark e = refl
outcome_more (Took p l v ∷ marks) mark e = outcome_more marks mark e
outcome_more (Gave l v ∷ marks) mark e = outcome_more marks mark e
outcome_more (Complete p ∷ marks) mark e = outcome_more marks mark e
outcome_more (Fault n ∷ marks) mark e = absurd (cc)
outcome_more (Done ∷ marks) mark e = absurd (cc)

pub stops_more : (marks : List Mark) (mark : Mark) → outcome_in marks ≡ None → stops (marks ++ mark ∷ []) ≡ true
stops_more [] (Took p l v) e = refl
stops_more [] (Gave l v) e = refl
stops_more [] (Complete p) e = refl
stops_more [] (Fault n) e = refl
stops_more [] Done e = refl
stops_more (Took p l v ∷ marks) mark e = stops_more marks mark e
stops_more (Gave l v ∷ marks) mark e = stops_more marks mark e
stops_more (Complete p ∷ marks) mark e = stops_more marks mark e
stops_more (Fault n ∷ marks) mark e = absurd (cc)
stops_more (Done ∷ marks) mark e = absurd (cc)

-- a mark that ends neither the port nor the block
pub ended_no_more : (p : ℕ) (marks : List Mark) (mark : Mark) → is_complete_mark p mark ≡ false
    → is_any_fault_mark mark ≡ false
    → is_done_mark mark ≡ false → has_ended p (marks ++ mark ∷ []) ≡ has_ended p marks
ended_no_more p marks mark complete fault done =
    rw (
      some_no_more (is_complete_mark p) marks mark complete,
      some_no_more is_any_fault_mark marks mark fault,
      some_no_more is_done_mark marks mark done,
    ) refl

-- what one more mark says of links and ports that it does not name
pub took_same : (test : ℕ → ℕ → Bool) (marks : List Mark) (mark : Mark) → taken_by_mark test mark ≡ []
    → took_where test (marks ++ mark ∷ []) ≡ took_where test marks
took_same test marks mark none =
    took_more test marks mark ∙ ap (λ (vs : List Value). took_where test marks ++ vs) none
    ∙ append-nil (took_where test marks)

pub gave_same : (test : ℕ → Bool) (marks : List Mark) (mark : Mark) → given_by_mark test mark ≡ []
    → gave_where test (marks ++ mark ∷ []) ≡ gave_where test marks
gave_same test marks mark none =
    gave_more test marks mark ∙ ap (λ (vs : List Value). gave_where test marks ++ vs) none
    ∙ append-nil (gave_where test marks)

-- and of those that it names
pub took_here : (test : ℕ → ℕ → Bool) (marks : List Mark) (p l : ℕ) (value : Value) → test p l ≡ true
    → took_where test (marks ++ Took p l value ∷ []) ≡ took_where test marks ++ value ∷ []
took_here test marks p l value names =
    took_more test marks (Took p l value)
    ∙ ap (λ (b : Bool). took_where test marks ++ cond b (value ∷ []) []) names

pub gave_here : (test : ℕ → Bool) (marks : List Mark) (l : ℕ) (value : Value) → test l ≡ true
    → gave_where test (marks ++ Gave l value ∷ []) ≡ gave_where test marks ++ value ∷ []
gave_here test marks l value names =
    gave_more test marks (Gave l value) ∙ ap (λ (b : Bool). gave_where test marks ++ cond b (value ∷ []) []) names

-- the mark does not go against a port that is complete
pub record IsFree (mark : Mark) (p : ℕ) : Type 0 where
  pub not_again : is_complete_mark p mark ≡ false
  pub takes_none : taken_by_mark (λ port link. port == p) mark ≡ []

abbrev pub GoesWith : List Mark → Mark → Type 0
GoesWith marks mark = (p : ℕ) → has_complete p marks ≡ true → IsFree mark p

pub once_more : (marks : List Mark) (mark : Mark) → GoesWith marks mark → completes_once marks ≡ true
    → completes_once (marks ++ mark ∷ []) ≡ true
once_more [] (Took p l v) goes e = refl
once_more [] (Gave l v) goes e = refl
once_more [] (Complete p) goes e = refl
once_more [] (Fault n) goes e = refl
once_more [] Done goes e = refl
once_more (Took p l v ∷ marks) mark goes e = once_more marks mark goes e
once_more (Gave l v ∷ marks) mark goes e = once_more marks mark goes e
once_more (Fault n ∷ marks) mark goes e = once_more marks mark goes e
once_more (Done ∷ marks) mark goes e = once_more marks mark goes e
once_more (Complete p ∷ marks) mark goes e =
    let outer = and_parts (not (has_complete p marks) && is_empty (took_at p marks)) (completes_once marks) e in
    let inner = and_parts (not (has_complete p marks)) (is_empty (took_at p marks)) outer.0 in
    let here = goes p (or_left (p == p) (has_complete p marks) (eq-eqb p p refl)) in
    let fresh : not (has_complete p (marks ++ mark ∷ [])) ≡ true =
    ap not
    (some_no_more (is_complete_mark p) marks mark here.not_again ∙ not-true (has_complete p marks) inner.0) in
    let empty : is_empty (took_at p (marks ++ mark ∷ [])) ≡ true =
    ap is_empty (took_same (λ port link. port == p) marks mark here.takes_none) ∙ inner.1 in
    and_from (not (has_complete p (marks ++ mark ∷ [])) && is_empty (took_at p (marks ++ mark ∷ [])))
    (completes_once (marks ++ mark ∷ []))
    (and_from (not (has_complete p (marks ++ mark ∷ []))) (is_empty (took_at p (marks ++ mark ∷ []))) fresh empty)
    (once_more marks mark (λ q is. goes q (or_right (p == q) (has_complete q marks) is)) outer.1)

-- an earlier link that was passed over, where its refusal is seen
pub passed_by : (begins rejects late used told seen : Bool) → (begins ≡ true → told ≡ true → seen ≡ true)
    → (not begins || rejects || late || used || told) ≡ true → (not begins || rejects || late || used || seen) ≡ true
passed_by false rejects late used told seen h e = refl
passed_by true true late used told seen h e = refl
passed_by true false true used told seen h e = refl
passed_by true false false true told seen h e = refl
passed_by true false false false told seen h e = h refl e
