-- What a port says of its end, as one of its ends of links moves, it closes, or its block's function faults.
use Rattle.std.proofs.Common.{◌≡◌, ℕ, ◌<◌, ◌≤◌, ◌⊎◌, Bool, true, false, List, length, set, Option, Some, None, is_some, refl, ap, sym, ◌∙◌, inl, inr, ⊎_elim, arith, ltb-true, subst, ◌&&◌, ◌++◌, ◌||◌, not, ◌∷◌, []}
use Rattle.std.proofs.lemmas.Bool.{cases_eq, and_from}
use Rattle.std.proofs.lemmas.List.{length-set, get_or-set_same, get_or-set_other}
use Rattle.flow_link.specs.declared.phase.Phase.{Phase}
use Rattle.flow_link.specs.declared.phase.Phase.TheVariants as phase
use Rattle.flow_link.specs.declared.stage.Refusal.{Refusal}
use Rattle.flow_link.specs.declared.stage.Refusal.TheVariants.{PortEnded, OwnFault}
use Rattle.flow_link.specs.declared.stage.TargetStage.{TargetStage}
use Rattle.flow_link.specs.declared.stage.TargetStage.TheVariants.{Free, Postponed, Consuming, Asking, Refused, Ended}
use Rattle.flow_lawful.specs.Endings.{is_number}
use Rattle.flow_link.specs.Stage.{target_looks}
use Rattle.flow_link.specs.declared.phase.LinkEnd.{LinkEnd}
use Rattle.flow_link.specs.declared.phase.LinkEnd.TheVariants.{Fault}
use Rattle.flow_link.specs.Phase.{is_numbered}
use Rattle.flow_intake.specs.Port.{EndState, stage_in, fresh_end}
use Rattle.flow_intake.specs.PortLaw.{has_ended as has_port_ended}
use Rattle.flow_intake.specs.Calls.{refused_by, failing_from}
use Rattle.flow_intake.specs.Ended.{is_completion, fault_seen, has_seen_fault, has_seen_completion}
use Rattle.flow_link.specs.Plan.{is_write_once}
use Rattle.flow_link.specs.Trace.{took, has_complete, is_complete_mark}
use Rattle.flow_link.specs.JournalGrows.{taken_by_mark}
use Rattle.flow_link.proofs.JournalsGrow.{took_more}
use Rattle.flow_link.proofs.OneMoreMark.{some_no_more}
use Rattle.flow_link.specs.declared.trace.Mark.{Mark}
use Rattle.flow_link.specs.declared.draft.BlockKind.{BlockKind}
use Rattle.flow_value.specs.declared.value.Value.{Value}
use Rattle.flow_outlet.specs.Outlet.{is_empty}
use Rattle.flow_block_law.specs.NodeLaw.{RefusesFor, has_its_message}
use Rattle.flow_block_law.proofs.FaultsSeen.{Unseen, unseen_where}
use Rattle.flow_link.proofs.TestsTell.{some_set}

-- One port

-- what it says of its end, where the block's own function faulted so, and the marks say so of the port's end
pub record PortEnds (fault : Option ℕ) (ended complete : Bool) (refusing : Option Refusal)
    (ends : List EndState) : Type 0 where
  pub ended_is : has_port_ended refusing ≡ ended
  pub failed : is_some fault ≡ true → is_some refusing ≡ true
  pub own_fault : refusing ≡ Some OwnFault → is_some fault ≡ true
  pub refused : (k : ℕ) → k < length ends → (why : Refusal) → stage_in k ends ≡ Refused why
      → RefusesFor refusing fault why
  pub numbered : (k : ℕ) → k < length ends → (number : ℕ) → fault_seen (stage_in k ends) ≡ Some number → 1 ≤ number
  pub complete_cause : complete ≡ true → has_seen_completion ends ≡ true

-- what an end that moves keeps: what it saw of its link's end, that a fault has a number, and that it refuses rightly
pub record StageGoes (fault : Option ℕ) (refusing : Option Refusal) (before after : TargetStage) : Type 0 where
  pub completion : is_completion before ≡ true → is_completion after ≡ true
  pub fault_kept : (number : ℕ) → is_number number (fault_seen before) ≡ true
      → is_number number (fault_seen after) ≡ true
  pub refused : (why : Refusal) → after ≡ Refused why → RefusesFor refusing fault why
  pub numbered : (number : ℕ) → fault_seen after ≡ Some number → 1 ≤ number

pub end_moves : (fault : Option ℕ) (ended complete : Bool) (refusing : Option Refusal) (ends : List EndState) (k : ℕ)
    (end : EndState)
    → PortEnds fault ended complete refusing ends → StageGoes fault refusing (stage_in k ends) end.stage
    → PortEnds fault ended complete refusing (set ends k end)
end_moves fault ended complete refusing ends k end law goes = record {
  ended_is = law.ended_is;
  failed = law.failed;
  own_fault = law.own_fault;
  refused = λ j there why is.
      let small : j < length ends = omega (arith, there, length-set ends k end) in
      elim (cases_eq j k) [
        | inl same ↦
            let here : k < length ends = rw (sym same) small in
            let read = ap (λ (e : EndState). e.stage) (get_or-set_same ends k end (fresh_end 0) here) in
            goes.refused why (sym read ∙ ap (λ (i : ℕ). stage_in i (set ends k end)) (sym same) ∙ is)
        | inr other ↦
            let read = ap (λ (e : EndState). e.stage) (get_or-set_other ends k j end (fresh_end 0) other) in
            law.refused j small why (sym read ∙ is)
      ];
  numbered = λ j there number is.
      let small : j < length ends = omega (arith, there, length-set ends k end) in
      elim (cases_eq j k) [
        | inl same ↦
            let here : k < length ends = rw (sym same) small in
            let read = ap (λ (e : EndState). fault_seen e.stage) (get_or-set_same ends k end (fresh_end 0) here) in
            goes.numbered number (sym read ∙ ap (λ (i : ℕ). fault_seen (stage_in i (set ends k end))) (sym same) ∙ is)
        | inr other ↦
            let read = ap (λ (e : EndState). fault_seen e.stage) (get_or-set_other ends k j end (fresh_end 0) other) in
            law.numbered j small number (sym read ∙ is)
      ];
  complete_cause = λ is.
      some_set (λ (e : EndState). is_completion e.stage) ends k end (fresh_end 0) goes.completion
      (law.complete_cause is);
}

-- The port closes, or its block's function faults

still_refuses : (refusing : Option Refusal) (fault : Option ℕ) (why : Refusal) → RefusesFor refusing fault why
    → RefusesFor (Some PortEnded) fault why
still_refuses refusing fault PortEnded is = refl
still_refuses refusing fault OwnFault is = is

pub port_closed : (fault : Option ℕ) (ended complete ended_now complete_now : Bool) (refusing : Option Refusal)
    (ends : List EndState)
    → PortEnds fault ended complete refusing ends → ended_now ≡ true
    → (complete_now ≡ true → has_seen_completion ends ≡ true)
    → PortEnds fault ended_now complete_now (Some PortEnded) ends
port_closed fault ended complete ended_now complete_now refusing ends law now cause = record {
  ended_is = sym now;
  failed = λ is. refl;
  own_fault = λ is. absurd (cc);
  refused = λ k small why is. still_refuses refusing fault why (law.refused k small why is);
  numbered = law.numbered;
  complete_cause = cause;
}

has_failed : (refusing : Option Refusal)
    → (has_port_ended (failing_from refusing) ≡ has_port_ended refusing) × (is_some (failing_from refusing) ≡ true)
has_failed None = (refl, refl)
has_failed (Some why) = (refl, refl)

refuses_failed : (refusing : Option Refusal) (fault : Option ℕ) (number : ℕ) (why : Refusal)
    → RefusesFor refusing fault why
    → RefusesFor (failing_from refusing) (Some number) why
refuses_failed refusing fault number PortEnded is = ap failing_from is
refuses_failed refusing fault number OwnFault is = refl

pub port_failed : (fault : Option ℕ) (number : ℕ) (ended complete : Bool) (refusing : Option Refusal)
    (ends : List EndState)
    → PortEnds fault ended complete refusing ends → PortEnds (Some number) ended complete (failing_from refusing) ends
port_failed fault number ended complete refusing ends law = record {
  ended_is = (has_failed refusing).0 ∙ law.ended_is;
  failed = λ is. (has_failed refusing).1;
  own_fault = λ is. refl;
  refused = λ k small why is. refuses_failed refusing fault number why (law.refused k small why is);
  numbered = law.numbered;
  complete_cause = law.complete_cause;
}

-- What is told of the marks of a port that completes

-- it has completed, and not since the block has all that it takes
abbrev pub completes_by : BlockKind → ℕ → List Mark → Bool
completes_by kind p journal = has_complete p journal && not (has_its_message kind journal)

pub completes_tells : (complete its_message : Bool) → (complete && not its_message) ≡ true
    → (complete ≡ true) × (its_message ≡ false)
completes_tells true false e = (refl, refl)
completes_tells true true e = absurd (cc)
completes_tells false its_message e = absurd (cc)

-- one more message taken ends nothing
message_before : (once : Bool) (before more : List Value) → (once && not (is_empty (before ++ more))) ≡ false
    → (once && not (is_empty before)) ≡ false
message_before false before more e = refl
message_before true [] more e = refl
message_before true (value ∷ before) more e = absurd (cc)

pub unwritten_before : (kind : BlockKind) (journal : List Mark) (mark : Mark)
    → has_its_message kind (journal ++ mark ∷ []) ≡ false → has_its_message kind journal ≡ false
unwritten_before kind journal mark none =
    message_before (is_write_once kind) (took journal) (taken_by_mark (λ port link. true) mark)
    (ap (λ (taken : List Value). is_write_once kind && not (is_empty taken))
    (sym (took_more (λ port link. true) journal mark)) ∙ none)

pub completes_more : (kind : BlockKind) (p : ℕ) (journal : List Mark) (mark : Mark) → is_complete_mark p mark ≡ false
    → completes_by kind p (journal ++ mark ∷ []) ≡ true → completes_by kind p journal ≡ true
completes_more kind p journal mark none e =
    let tells = completes_tells (has_complete p (journal ++ mark ∷ [])) (has_its_message kind (journal ++ mark ∷ [])) e in
    and_from (has_complete p journal) (not (has_its_message kind journal))
    (sym (some_no_more (is_complete_mark p) journal mark none) ∙ tells.0) (ap not (unwritten_before kind journal mark tells.1))

pub fewer_complete : (fault : Option ℕ) (ended complete now : Bool) (refusing : Option Refusal) (ends : List EndState)
    → (now ≡ true → complete ≡ true) → PortEnds fault ended complete refusing ends → PortEnds fault ended now refusing ends
fewer_complete fault ended complete now refusing ends fewer law = record {
  ended_is = law.ended_is;
  failed = law.failed;
  own_fault = law.own_fault;
  refused = law.refused;
  numbered = law.numbered;
  complete_cause = λ is. law.complete_cause (fewer is);
}

pub seen_unless : (seen written : Bool) → (seen || written) ≡ true → written ≡ false → seen ≡ true
seen_unless true written e none = refl
seen_unless false written e none = sym none ∙ e

-- What an end keeps where it moves

goes_unseen : (fault : Option ℕ) (refusing : Option Refusal) (before after : TargetStage) → Unseen before
    → has_seen_fault after ≡ false
    → ((why : Refusal) → after ≡ Refused why → RefusesFor refusing fault why) → StageGoes fault refusing before after
goes_unseen fault refusing before after unseen none refused = record {
  completion = λ is. let never : false ≡ true = sym unseen.completion ∙ is in absurd (cc);
  fault_kept = λ number is. let never : false ≡ true = ap (is_number number) (sym unseen.fault) ∙ is in absurd (cc);
  refused = refused;
  numbered = λ number is. let never : false ≡ true = sym none ∙ ap is_some is in absurd (cc);
}

-- where such a test passes, the end has seen nothing; and it comes to stand where it has seen no fault
pub unseen_goes : (fault : Option ℕ) (refusing : Option Refusal) (before after : TargetStage)
    → (test : TargetStage → Bool) → ((how : LinkEnd) → test (Ended how) ≡ false) → test before ≡ true → has_seen_fault after ≡ false
    → ((why : Refusal) → after ≡ Refused why → RefusesFor refusing fault why) → StageGoes fault refusing before after
unseen_goes fault refusing before after test ended_not passes none refused =
    goes_unseen fault refusing before after (unseen_where test ended_not before passes) none refused

-- an end that refuses has seen no fault
pub refusal_unseen : (refusing : Option Refusal) → has_seen_fault (refused_by refusing) ≡ false
refusal_unseen None = refl
refusal_unseen (Some why) = refl

-- an end refuses for what its port refuses for
pub refuses_so : (fault : Option ℕ) (refusing : Option Refusal) (why : Refusal)
    → (refusing ≡ Some OwnFault → is_some fault ≡ true)
    → refused_by refusing ≡ Refused why → RefusesFor refusing fault why
refuses_so fault None why own is = absurd (cc)
refuses_so fault (Some PortEnded) PortEnded own is = refl
refuses_so fault (Some PortEnded) OwnFault own is = absurd (cc)
refuses_so fault (Some OwnFault) PortEnded own is = absurd (cc)
refuses_so fault (Some OwnFault) OwnFault own is = own refl

pub record LookGoes (before after : TargetStage) : Type 0 where
  pub completion : is_completion before ≡ true → is_completion after ≡ true
  pub fault_kept : (number : ℕ) → is_number number (fault_seen before) ≡ true
      → is_number number (fault_seen after) ≡ true
  pub refused : (why : Refusal) → after ≡ Refused why → before ≡ Refused why

still : (stage : TargetStage) → LookGoes stage stage
still stage = record { completion = λ is. is; fault_kept = λ number is. is; refused = λ why is. is }

pub look_goes : (stage : TargetStage) (found : Phase) → LookGoes stage (target_looks stage found)
look_goes (Ended how) found = still (Ended how)
look_goes (Refused PortEnded) found = still (Refused PortEnded)
look_goes (Refused OwnFault) found = still (Refused OwnFault)
look_goes stage phase.Idle = record {
  completion = λ is. absurd (cc);
  fault_kept = λ number is. absurd (cc);
  refused = λ why is. absurd (cc);
}
look_goes stage found = record {
  completion = λ is. absurd (cc);
  fault_kept = λ number is. absurd (cc);
  refused = λ why is. absurd (cc);
}

-- the fault with which a link has ended
abbrev fault_of : Phase → Option ℕ
fault_of (phase.Ended how) = fault_seen (Ended how)
fault_of _ = None

-- after a look an end has seen the fault that it saw before, or that of the phase
sees_either : (stage : TargetStage) (found : Phase)
    → (fault_seen (target_looks stage found) ≡ fault_seen stage) ⊎ (fault_seen (target_looks stage found) ≡ fault_of found)
sees_either (Ended how) found = inl refl
sees_either (Refused PortEnded) found = inl refl
sees_either (Refused OwnFault) found = inl refl
sees_either Free (phase.Ended how) = inr refl
sees_either (Postponed i) (phase.Ended how) = inr refl
sees_either (Consuming i) (phase.Ended how) = inr refl
sees_either (Asking i) (phase.Ended how) = inr refl
sees_either stage phase.Idle = inl refl
sees_either stage found = inl refl

fault_numbered : (found : Phase) (number : ℕ) → is_numbered found ≡ true → fault_of found ≡ Some number → 1 ≤ number
fault_numbered (phase.Ended (Fault fault)) number tells is =
    let same : fault ≡ number = cc in
    subst (λ (n : ℕ). 1 ≤ n) same (omega (arith, ltb-true 0 fault tells))
fault_numbered _ number tells is = absurd (cc)

pub look_numbered : (stage : TargetStage) (found : Phase) (number : ℕ) → is_numbered found ≡ true
    → ((other : ℕ) → fault_seen stage ≡ Some other → 1 ≤ other) → fault_seen (target_looks stage found) ≡ Some number → 1 ≤ number
look_numbered stage found number tells seen is =
    ⊎_elim
    (λ before. seen number (sym before ∙ is))
    (λ now. fault_numbered found number tells (sym now ∙ is))
    (sees_either stage found)
