-- Over any calls a write-once block that a caller drives by hand takes one message in all, and copies it at once.
use Rattle.std.proofs.Common.{◌≡◌, ℕ, ◌+◌, ◌-◌, ◌<◌, ◌≤◌, ◌^◌, ◌==◌, ltb, Bool, true, false, not, ◌&&◌, ◌⊎◌, inl, inr, cond, is_some, List, [], ◌∷◌, ◌++◌, length, take, drop, Option, Some, None, Ok, Err, refl, ap, sym, subst, ◌∙◌, arith, append-nil, eq-eqb}
use Rattle.std.proofs.lemmas.Bool.{and_from, lt-ltb}
use Rattle.std.proofs.lemmas.List.{length-append, length-set, get_or-set_same}
use Rattle.flow_value.specs.declared.value.Value.{Value}
use Rattle.flow_value.specs.declared.message.MessageStatus.{MessageStatus}
use Rattle.flow_link.specs.BlockCalls.{BlockCall}
use Rattle.flow_link.specs.SourceCalls.{SourceCall}
use Rattle.flow_link.specs.TargetCalls.{TargetCall}
use Rattle.flow_link.specs.Plan.{is_broadcast, is_one_taker, is_write_once}
use Rattle.flow_link.specs.declared.draft.BlockKind.{BlockKind}
use Rattle.flow_link.specs.declared.draft.BlockKind.TheVariants as kinds
use Rattle.flow_link.specs.declared.stage.SourceStage.{SourceStage}
use Rattle.flow_link.specs.declared.stage.SourceStage.TheVariants as source
use Rattle.flow_link.specs.declared.trace.Outcome.TheVariants.{Done, Faulted}
use Rattle.flow_link.specs.declared.traits.MakeFault.TheVariants as make_fault
use Rattle.flow_intake.specs.Port.{PortState, fresh_port}
use Rattle.flow_intake.specs.Calls.{first_of, takes_next, gives_room, port_closes}
use Rattle.flow_intake.specs.ByLink.{answered, arrives}
use Rattle.flow_group.specs.Tuples.{only_at}
use Rattle.flow_outlet.specs.ByLink.{has_room}
use Rattle.flow_outlet.specs.History.{listed}
use Rattle.flow_outlet.specs.Outlet.{is_empty}
use Rattle.flow_spread.specs.declared.end.CopyEnd.{CopyEnd}
use Rattle.flow_spread.specs.End.{first_open, count_of, owes_it}
use Rattle.flow_spread.specs.ByLink.{place_of as copy_place, tests_consume, is_there, tests_reserve, reserved}
use Rattle.flow_spread.specs.Spread.{SpreadState, next_place, puts as copies_put, is_spread_free, end_at}
use Rattle.flow_block.specs.Block.{BlockState, port_at, held_by, with_port, copies_at_once, copies_where, copies_next, stops_by}
use Rattle.flow_block.specs.Copies.{copies_weight}
use Rattle.flow_block.specs.Peeks.{may_finish}
use Rattle.flow_block.specs.Traits.{settles, outcome_of, faults, makes_alone, has_turn, source_shown, is_copy_ready, copy_over, copies_over, may_take_copy, copies_home, source_by, offer_by, offer_next, offered_by, answered_by, given_by, port_into, with_port_of, wishing_port, wishes, notes, may_keep_copy, keeps_copy, reserved_by, released_by}
use Rattle.flow_block.proofs.CopyKept.{is_kept}
use Rattle.flow_history.specs.Calls.{Call, MayCall, MayCallInOrder, Does, Fits, Step, AllDone, after_all}
use Rattle.flow_history.specs.History.{History, took_at, came_by, made_by, gave_by, noted, history_of, copied_at_once}
use Rattle.flow_history.specs.Kept.{hands_on}
use Rattle.flow_history.proofs.CallsLeave.{IsPlain, call_leaves}
use Rattle.flow_history.proofs.MessagesKept.{one_call}
use Rattle.flow_history.proofs.Still.{HasOneRoom, Kept}
use Rattle.flow_history.proofs.Takes.{there, took_more, held_more}
use Rattle.flow_history.specs.WriteOnce.{WritesOnce}

-- Before a message came, no call changes what it copies

none_offered : (s : SpreadState) → s.element ≡ None → next_place s ≡ None
none_offered s none =
    ap (λ (e : Option Value). cond (is_some e && ltb (first_open s.id s.ends) (length s.ends)) (Some (first_open s.id s.ends)) None) none

-- no stage is shown as an offer that is out, where nothing is there to be given
never_out : (next header : ℕ) (stage : SourceStage) → source_shown false next stage ≡ source.Out header → ⊥
never_out next header (source.Out i) e = cc
never_out next header (source.Accepted i) e = cc
never_out next header (source.Waiting i) e = where_next (i == next) e
  where
    where_next : (same : Bool) → cond same (source.Waiting i) source.Free ≡ source.Out header → ⊥
    where_next true e = cc
    where_next false e = cc
never_out next header (source.Reserved i) e = cc
never_out next header _ e = cc

module _ (s : SpreadState) (link header : ℕ) (none : s.element ≡ None) where
  abbrev end : CopyEnd
  end = end_at s (copy_place link s.ends)

  unready : is_copy_ready s end ≡ false
  unready = ap (λ (e : Option Value). is_some e && is_some end.share && has_room end.link.rule.max end.link.given) none

  at_place : (here : Bool) → cond here (source_shown (is_copy_ready s end) s.id end.link.stage) source.Refused ≡ source.Out header → ⊥
  at_place true e =
      never_out s.id header end.link.stage (sym (ap (λ (ready : Bool). source_shown ready s.id end.link.stage) unready) ∙ e)
  at_place false e = cc

  none_asked : copy_over s link ≡ source.Out header → ⊥
  none_asked out = at_place (ltb (copy_place link s.ends) (length s.ends)) out

  none_kept : copy_over s link ≡ source.Reserved header → ⊥
  none_kept shown = let ready : is_copy_ready s end ≡ true = (is_kept s link header shown).ready_is in cc

none_taken : (s : SpreadState) (link header : ℕ) → s.element ≡ None → may_take_copy link header s ≡ false
none_taken s link header none =
    ap (λ (e : Option Value). is_some e && tests_consume (copy_place link s.ends) header s && is_there (copy_place link s.ends) header s) none

none_keeps : (s : SpreadState) (link header : ℕ) → s.element ≡ None → may_keep_copy link header s ≡ false
none_keeps s link header none =
    ap (λ (e : Option Value). is_some e && tests_reserve (copy_place link s.ends) header s && tests_consume (copy_place link s.ends) header s
    && reserved header s) none

copying : (kind : BlockKind) → is_write_once kind ≡ true → is_one_taker kind ≡ false
copying kinds.WriteOnce e = refl
copying _ e = absurd (cc)

module _ (old new : BlockState) where
  so_far : (block : BlockState) → new ≡ block → block.copies ≡ old.copies → new.copies ≡ old.copies
  so_far block is same = ap (λ (b : BlockState). b.copies) is ∙ same

  fault_copies : (number : ℕ) (ended : Bool) → (cond ended old (stops_by (Faulted number) old)).copies ≡ old.copies
  fault_copies number true = refl
  fault_copies number false = refl

  wish_copies : (place : Option ℕ) → (wishes place old).copies ≡ old.copies
  wish_copies None = refl
  wish_copies (Some p) = refl

  -- it is asked whether it has ended
  settled_copies : (finished : Bool) → (cond finished (stops_by Done old) old).copies ≡ old.copies
  settled_copies true = refl
  settled_copies false = refl

  pub asked_leaves_copies : Does Call.asked old new → new.copies ≡ old.copies
  asked_leaves_copies does = so_far (settles old) does (settled_copies (may_finish old))

  pub acts_leave_copies : (call : BlockCall) → IsPlain (Call.acts call) → Does (Call.acts call) old new → new.copies ≡ old.copies
  acts_leave_copies (BlockCall.completed p) plain does = so_far (with_port p port_closes old) does refl
  acts_leave_copies (BlockCall.faulted number) plain does =
      so_far (faults number old) does (fault_copies number (is_some (outcome_of old)))
  acts_leave_copies (BlockCall.made (Ok true)) plain does = absurd plain
  acts_leave_copies (BlockCall.made (Ok false)) plain does = so_far old does.1 refl
  acts_leave_copies (BlockCall.made (Err make_fault.Ids)) plain does = so_far old does.1 refl
  acts_leave_copies (BlockCall.made (Err make_fault.Memory)) plain does = so_far old does.1 refl

  pub takes_leave_copies : (call : TargetCall) → IsPlain (Call.takes call) → Does (Call.takes call) old new → new.copies ≡ old.copies
  takes_leave_copies (TargetCall.offered link header may_postpone how) plain does =
      so_far (with_port_of link (answered link header how) old) does.1 refl
  takes_leave_copies (TargetCall.handed link header value) plain does = absurd plain
  takes_leave_copies (TargetCall.wished told) plain does =
      so_far (wishes (wishing_port old.ports) old) does.1 (wish_copies (wishing_port old.ports))
  takes_leave_copies (TargetCall.noted link told) plain does = so_far (with_port_of link (notes told link) old) does refl

  -- What it does as a source

  module _ (once : is_write_once old.kind ≡ true) where
    pub offer_is : offer_next old ≡ cond (is_some old.stopped) None (copies_over old.copies (next_place old.copies))
    offer_is = ap (λ (one : Bool). cond (is_some old.stopped) None (offer_by one old)) (copying old.kind once)

    pub offered_is : (offer : Option (ℕ × ℕ)) → Does (Call.gives (SourceCall.offered offer)) old new
        → new ≡ offered_by false (offer_next old) old
    offered_is offer does = does.1 ∙ ap (λ (one : Bool). offered_by one (offer_next old) old) (copying old.kind once)

    pub noted_is : (link header : ℕ) (how : MessageStatus) → Does (Call.gives (SourceCall.noted link header how)) old new
        → new ≡ answered_by false link header how old
    noted_is link header how does = does ∙ ap (λ (one : Bool). answered_by one link header how old) (copying old.kind once)

    pub out_is : (link header : ℕ) (how : MessageStatus) → MayCall (Call.gives (SourceCall.noted link header how)) old
        → copy_over old.copies link ≡ source.Out header
    out_is link header how may = sym (ap (λ (one : Bool). source_by one old link) (copying old.kind once)) ∙ may

    pub consumed_is : (link header : ℕ) (value : Option Value) → Does (Call.gives (SourceCall.consumed link header value)) old new
        → new ≡ given_by false link header old
    consumed_is link header value does = does.1 ∙ ap (λ (one : Bool). given_by one link header old) (copying old.kind once)

    pub reserved_is : (link header : ℕ) (kept : Bool) → Does (Call.gives (SourceCall.reserved link header kept)) old new
        → new ≡ reserved_by false link header old
    reserved_is link header kept does = does.1 ∙ ap (λ (one : Bool). reserved_by one link header old) (copying old.kind once)

    pub released_is : (link header : ℕ) → Does (Call.gives (SourceCall.released link header)) old new
        → new ≡ released_by false link header old
    released_is link header does = does ∙ ap (λ (one : Bool). released_by one link header old) (copying old.kind once)

    pub kept_is : (link header : ℕ) → MayCall (Call.gives (SourceCall.released link header)) old
        → copy_over old.copies link ≡ source.Reserved header
    kept_is link header may = sym (ap (λ (one : Bool). source_by one old link) (copying old.kind once)) ∙ may

    module _ (none : old.copies.element ≡ None) where
      nothing_next : (stopped : Bool) → cond stopped None (copies_over old.copies (next_place old.copies)) ≡ None
      nothing_next true = refl
      nothing_next false = ap (copies_over old.copies) (none_offered old.copies none)

      gives_none : (call : SourceCall) → MayCall (Call.gives call) old → Does (Call.gives call) old new → new.copies ≡ old.copies
      gives_none (SourceCall.offered offer) may does =
          so_far old (offered_is offer does
          ∙ ap (λ (place : Option ℕ). offered_by false place old) (offer_is ∙ nothing_next (is_some old.stopped))) refl
      gives_none (SourceCall.noted link header how) may does =
          absurd (none_asked old.copies link header none (out_is link header how may))
      gives_none (SourceCall.consumed link header value) may does =
          so_far old (consumed_is link header value does
          ∙ ap (λ (taken : Bool). cond taken (copies_home link header old) old) (none_taken old.copies link header none)) refl
      gives_none (SourceCall.reserved link header kept) may does =
          so_far old (reserved_is link header kept does
          ∙ ap (λ (keep : Bool). cond keep (keeps_copy link header old) old) (none_keeps old.copies link header none)) refl
      gives_none (SourceCall.released link header) may does =
          absurd (none_kept old.copies link header none (kept_is link header may))

      pub copies_stay : (call : Call) → IsPlain call → MayCall call old → Does call old new → new.copies ≡ old.copies
      copies_stay (Call.acts call) plain may does = acts_leave_copies call plain does
      copies_stay (Call.gives call) plain may does = gives_none call may does
      copies_stay (Call.takes call) plain may does = takes_leave_copies call plain does
      copies_stay Call.asked plain may does = asked_leaves_copies does

-- What holds after each call

-- before a message came, its copies are as they were at first
pub record Once (first : SpreadState) (history : History) (block : BlockState) : Type 0 where
  pub still : block.copies.element ≡ None → block.copies ≡ first
  pub holds : held_by block ≡ []
  pub made : listed block.copies.element ≡ history.made

no_value : (element : Option Value) → listed element ≡ [] → element ≡ None
no_value None e = refl
no_value (Some value) e = absurd (cc)

no_values : (values : List Value) → length values ≡ 0 → values ≡ []
no_values [] e = refl
no_values (value ∷ values) e = absurd (cc)

hands_once : (kind : BlockKind) → is_write_once kind ≡ true → hands_on kind ≡ true
hands_once kinds.WriteOnce e = refl
hands_once _ e = absurd (cc)

-- it makes nothing of its own
pub never_makes : (kind : BlockKind) (ports : ℕ) (turn : Bool) → is_write_once kind ≡ true → (makes_alone kind ports && turn) ≡ true → ⊥
never_makes kinds.WriteOnce ports turn once e = cc
never_makes _ ports turn once e = cc

module _ (first : SpreadState) (free : is_spread_free first ≡ true) (ids : first.id + 1 < 2 ^ 59) (h : History) (old new : BlockState)
    (kept : Kept true h old) (fits : Fits old) (so : Once first h old) where
  abbrev place : HasOneRoom old
  place = kept.place refl

  plain_once : (call : Call) → IsPlain call → MayCallInOrder call old → Does call old new → made_by call old ≡ []
      → Once first (noted came_by made_by gave_by call old h) new
  plain_once call plain may does unmade =
      let leaves = call_leaves (λ p. length (took_at h p)) old new kept.in_order fits call plain may does in
      record {
        still = λ none.
            let before : old.copies.element ≡ None = sym leaves.still.element ∙ none in
            copies_stay old new place.once before call plain may.0 does ∙ so.still before;
        holds = leaves.still.held 0 ∙ so.holds;
        made =
            ap listed leaves.still.element ∙ so.made ∙ sym (append-nil h.made)
            ∙ ap (λ (values : List Value). h.made ++ values) (sym unmade);
      }

  -- A message comes

  module _ (link header : ℕ) (value : Value) (may : MayCallInOrder (Call.takes (TargetCall.handed link header value)) old)
      (does : Does (Call.takes (TargetCall.handed link header value)) old new) where
    abbrev arrived : BlockState
    arrived = with_port_of link (arrives link value) old

    abbrev p : ℕ
    p = port_into link old.ports

    first_port : 0 < length old.ports
    first_port = let alone = place.alone in omega (arith, alone)

    mine : p ≡ 0
    mine =
        let alone = place.alone in
        let below = there true h old kept link header value may.0 in
        omega (arith, alone, below)

    only_here : only_at p (value ∷ []) 0 ≡ value ∷ []
    only_here = ap (λ (here : Bool). cond here (value ∷ []) []) (eq-eqb p 0 mine)

    -- it is the first
    took_none : took_at h 0 ≡ []
    took_none =
        let after = one_call true h old new kept fits (Call.takes (TargetCall.handed link header value)) may does in
        let more = took_more true h old kept link header value may.0 0 ∙ ap (λ (values : List Value). took_at h 0 ++ values) only_here in
        let counted : length (took_at h 0 ++ value ∷ []) ≤ 1 = subst (λ (values : List Value). length values ≤ 1) more (after.one refl) in
        let sum = length-append (took_at h 0) (value ∷ []) in
        no_values (took_at h 0) (omega (arith, counted, sum))

    made_none : h.made ≡ []
    made_none =
        sym (append-nil h.made) ∙ ap (λ (values : List Value). h.made ++ values) (sym so.holds)
        ∙ sym (kept.messages.as_they_are (hands_once old.kind place.once)) ∙ took_none

    copies_first : old.copies ≡ first
    copies_first = so.still (no_value old.copies.element (so.made ∙ made_none))

    holds_it : held_by arrived ≡ value ∷ []
    holds_it =
        held_more true h old kept link header value may.0 0 first_port
        ∙ ap (λ (values : List Value). values ++ only_at p (value ∷ []) 0) so.holds ∙ only_here

    one_port : length arrived.ports ≡ 1
    one_port = length-set old.ports p (arrives link value (port_at p old)) ∙ place.alone

    copies_it_now : copies_at_once arrived ≡ true
    copies_it_now =
        and_from (is_write_once arrived.kind && length arrived.ports == 1 && not (is_empty (held_by arrived)) && is_spread_free arrived.copies)
        (ltb (arrived.copies.id + 1) (2 ^ 59))
        (and_from (is_write_once arrived.kind && length arrived.ports == 1 && not (is_empty (held_by arrived))) (is_spread_free arrived.copies)
        (and_from (is_write_once arrived.kind && length arrived.ports == 1) (not (is_empty (held_by arrived)))
        (and_from (is_write_once arrived.kind) (length arrived.ports == 1) place.once (eq-eqb (length arrived.ports) 1 one_port))
        (ap (λ (values : List Value). not (is_empty values)) holds_it))
        (ap is_spread_free copies_first ∙ free))
        (lt-ltb (arrived.copies.id + 1) (2 ^ 59) (subst (λ (s : SpreadState). s.id + 1 < 2 ^ 59) (sym copies_first) ids))

    abbrev left : BlockState
    left = copies_next (Some value) arrived

    pub left_is : new ≡ left
    left_is =
        does ∙ ap (λ (once : Bool). copies_where once arrived) copies_it_now
        ∙ ap (λ (values : List Value). copies_next (first_of values) arrived) holds_it

    pub copies_it : new.copies ≡ copies_put value first
    copies_it = ap (λ (b : BlockState). b.copies) left_is ∙ ap (copies_put value) copies_first

    pub handed_once : Once first (noted came_by made_by gave_by (Call.takes (TargetCall.handed link header value)) old h) new
    handed_once =
        let port = gives_room (1 - copies_weight (copies_put value arrived.copies)) (takes_next (port_at 0 arrived)) in
        let there_first : 0 < length arrived.ports = (let count = one_port in omega (arith, count)) in
        let held : held_by left ≡ [] =
        ap (λ (r : PortState). r.waiting) (get_or-set_same arrived.ports 0 port (fresh_port None) there_first)
        ∙ ap (λ (values : List Value). drop 1 values) holds_it in
        let made : copied_at_once arrived ≡ value ∷ [] =
        ap (λ (once : Bool). cond once (take 1 (held_by arrived)) []) copies_it_now
        ∙ ap (λ (values : List Value). take 1 values) holds_it in
        record {
          still = λ none. let some = ap (λ (b : BlockState). b.copies.element) (sym left_is) ∙ none in absurd (cc);
          holds = ap (λ (b : BlockState). held_by b) left_is ∙ held;
          made =
              ap (λ (b : BlockState). listed b.copies.element) left_is
              ∙ sym (ap (λ (values : List Value). values ++ copied_at_once arrived) made_none ∙ made);
        }

  acted_once : (call : BlockCall) → MayCallInOrder (Call.acts call) old → Does (Call.acts call) old new
      → Once first (noted came_by made_by gave_by (Call.acts call) old h) new
  acted_once (BlockCall.completed p) may does = plain_once (Call.acts (BlockCall.completed p)) tt may does refl
  acted_once (BlockCall.faulted number) may does = plain_once (Call.acts (BlockCall.faulted number)) tt may does refl
  acted_once (BlockCall.made (Ok true)) may does =
      absurd (never_makes old.kind (length old.ports) (has_turn (is_broadcast old.kind) old) place.once does.0.by_itself)
  acted_once (BlockCall.made (Ok false)) may does = plain_once (Call.acts (BlockCall.made (Ok false))) tt may does refl
  acted_once (BlockCall.made (Err fault)) may does = plain_once (Call.acts (BlockCall.made (Err fault))) tt may does refl

  pub call_once : (call : Call) → MayCallInOrder call old → Does call old new → Once first (noted came_by made_by gave_by call old h) new
  call_once (Call.acts call) may does = acted_once call may does
  call_once (Call.gives call) may does = plain_once (Call.gives call) tt may does refl
  call_once (Call.takes (TargetCall.handed link header value)) may does = handed_once link header value may does
  call_once (Call.takes (TargetCall.offered link header may_postpone how)) may does =
      plain_once (Call.takes (TargetCall.offered link header may_postpone how)) tt may does refl
  call_once (Call.takes (TargetCall.wished told)) may does = plain_once (Call.takes (TargetCall.wished told)) tt may does refl
  call_once (Call.takes (TargetCall.noted link told)) may does = plain_once (Call.takes (TargetCall.noted link told)) tt may does refl
  call_once Call.asked may does = plain_once Call.asked tt may does refl

-- Over all

pub record AllOnce (first : SpreadState) (history : History) (block : BlockState) : Type 0 where
  pub kept : Kept true history block
  pub once : Once first history block

pub one_once : (first : SpreadState) → is_spread_free first ≡ true → first.id + 1 < 2 ^ 59 → (h : History) (old new : BlockState)
    → Fits old → AllOnce first h old → (call : Call) → MayCallInOrder call old → Does call old new
    → AllOnce first (noted came_by made_by gave_by call old h) new
one_once first free ids h old new fits so call may does = record {
  kept = one_call true h old new so.kept fits call may does;
  once = call_once first free ids h old new so.kept fits so.once call may does;
}

pub all_once : (first : SpreadState) → is_spread_free first ≡ true → first.id + 1 < 2 ^ 59 → (steps : List (Step Call BlockState))
    → (old : BlockState) (h : History) → Fits old → AllDone Fits MayCallInOrder Does steps old → AllOnce first h old
    → AllOnce first (history_of came_by made_by gave_by steps old h) (after_all steps old)
all_once first free ids [] old h fits done so = so
all_once first free ids (step ∷ steps) old h fits done so =
    all_once first free ids steps step.left (noted came_by made_by gave_by step.call old h) done.1.1.0 done.1.1.1
    (one_once first free ids h old step.left fits so step.call done.0 done.1.0)

-- what it took is what it made, and what it copies
pub took_made : (first : SpreadState) (h : History) (block : BlockState) → AllOnce first h block → took_at h 0 ≡ h.made
took_made first h block so =
    so.kept.messages.as_they_are (hands_once block.kind (so.kept.place refl).once)
    ∙ ap (λ (values : List Value). h.made ++ values) so.once.holds ∙ append-nil h.made

left_where : (element : Option Value) (took : List Value) (none : Bool) → listed element ≡ took
    → (cond none None element ≡ None) ⊎ (listed (cond none None element) ≡ took)
left_where element took true is = inl refl
left_where element took false is = inr is

pub writes_once : (first : SpreadState) (h : History) (block : BlockState) → AllOnce first h block → WritesOnce (took_at h 0) block
writes_once first h block so =
    let element = so.once.made ∙ sym (took_made first h block so) in
    record {
      one = so.kept.one refl;
      holds = so.once.holds;
      element = element;
      left = left_where block.copies.element (took_at h 0) (count_of owes_it block.copies.ends == 0) element;
    }
