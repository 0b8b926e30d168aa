-- Over any calls each link of a block that copies has its accounts, whatever its target answers: what becomes of the block's copies is
-- what a list of their own calls makes of them.
use Rattle.std.proofs.Common.{◌≡◌, ℕ, ◌+◌, ◌<◌, ◌^◌, ◌==◌, ltb, leb, Bool, true, false, not, ◌&&◌, cond, is_some, is_none, List, [], ◌∷◌, ◌++◌, length, take, Option, Some, None, Ok, Err, refl, ap, ap₂, sym, subst, ◌∙◌, arith, append-nil, append_assoc}
use Rattle.std.proofs.lemmas.Bool.{and_parts, not-true, ltb-true, leb-false}
use Rattle.std.proofs.lemmas.List.{length-map}
use Rattle.flow_value.specs.declared.value.Value.{Value}
use Rattle.flow_link.specs.declared.draft.BlockKind.{BlockKind}
use Rattle.flow_link.specs.declared.draft.BlockKind.TheVariants.{Broadcast, WriteOnce}
use Rattle.flow_link.specs.declared.trace.Outcome.TheVariants.{Done, Faulted}
use Rattle.flow_link.specs.declared.traits.MakeFault.TheVariants as make_fault
use Rattle.flow_link.specs.BlockCalls.{BlockCall}
use Rattle.flow_link.specs.Plan.{is_broadcast, is_one_taker, is_write_once}
use Rattle.flow_link.specs.SourceCalls.{SourceCall}
use Rattle.flow_link.specs.TargetCalls.{TargetCall}
use Rattle.flow_link.specs.Kinds.{unit_of}
use Rattle.flow_intake.specs.Port.{PortState}
use Rattle.flow_intake.specs.Calls.{first_of, port_closes}
use Rattle.flow_intake.specs.ByLink.{answered, arrives}
use Rattle.flow_outlet.specs.Outlet.{is_empty, lacks_ids}
use Rattle.flow_outlet.specs.declared.ends.LinkRule.{LinkRule}
use Rattle.flow_spread.specs.End.{fresh_end}
use Rattle.flow_spread.specs.ByLink.{place_of, is_there, tests_consume}
use Rattle.flow_spread.specs.Accounts.{Told, told_both, told_in, AllMade, LinkAccounts}
use Rattle.flow_spread.specs.Copied as copied
use Rattle.flow_spread.specs.Spread.{SpreadState, next_place, is_spread_free, puts}
use Rattle.flow_spread.proofs.AnyTarget.{each_link_accounts}
use Rattle.flow_block.specs.Block.{BlockState, held_by, with_port, copies_next, copies_at_once, copies_where, stops_by}
use Rattle.flow_block.specs.BlockFits.{fresh_block}
use Rattle.flow_block.specs.Copies.{copied_rules}
use Rattle.flow_block.specs.Peeks.{may_finish, would_copy}
use Rattle.flow_block.specs.Traits.{settles, outcome_of, faults, makes_alone, has_turn, made_next, makes_its_next, Makes, carries_copy, copies_over, copy_over, may_take_copy, copies_home, shares, source_by, offer_by, offer_next, offered_by, answered_by, taken_by, given_by, with_port_of, wishing_port, wishes, notes, made_by_unit, goes_on_by_unit, may_keep_copy, keeps_copy, kept_by, reserved_by, released_by}
use Rattle.flow_history.specs.Calls.{Call, MayCall, Fits, Does, Step, AllDone, after_all}
use Rattle.flow_history.specs.Copied.{told_by, told_over, link_id, NamesItself}
use Rattle.flow_history.specs.History.{Gift, History, nothing_yet, given_over, came_by, copied_at_once, made_by, gifts_of, gave_by, noted, history_of}
use Rattle.flow_history.proofs.CopiesFollow.{after_both, made_both, put_both, given_both, told_all_both, course, puts_of, offers_of, gives_of, Follows, tells_nothing, nothing_follows, put_follows, offer_follows, answer_follows, gift_follows, keeps_of, releases_of, keep_follows, release_follows}

-- By each call of the block

abbrev pub calls_by : Call → BlockState → List copied.Call
calls_by (Call.acts (BlockCall.made (Ok true))) block = puts_of (made_next block)
calls_by (Call.takes (TargetCall.handed link header value)) block = puts_of (copied_at_once (with_port_of link (arrives link value) block))
calls_by (Call.gives (SourceCall.offered offer)) block = offers_of (offer_next block)
calls_by (Call.gives (SourceCall.noted link header how)) block = copied.Call.answer (place_of link block.copies.ends) header how ∷ []
calls_by (Call.gives (SourceCall.consumed link header value)) block = gives_of (place_of link block.copies.ends) header value
calls_by (Call.gives (SourceCall.reserved link header true)) block = keeps_of (place_of link block.copies.ends) header
calls_by (Call.gives (SourceCall.released link header)) block = releases_of (place_of link block.copies.ends) header
calls_by _ block = []

pub record CallFollows (call : Call) (old new : BlockState) : Type 0 where
  pub follows : Follows (calls_by call old) old.copies new.copies (made_by call old) (gave_by call) (λ link. told_by link call)
  pub kind : new.kind ≡ old.kind

module _ (old new : BlockState) (copies : is_one_taker old.kind ≡ false) where
  -- the copies stay
  stays : (call : Call) (block : BlockState) → new ≡ block → block.copies ≡ old.copies → block.kind ≡ old.kind
      → calls_by call old ≡ [] → made_by call old ≡ [] → gave_by call ≡ [] → (λ (link : ℕ). told_by link call) ≡ tells_nothing → CallFollows call old new
  stays call block is same kind none unmade ungiven untold = record {
    follows =
        subst (λ (calls : List copied.Call). Follows calls old.copies new.copies (made_by call old) (gave_by call) (λ link. told_by link call)) (sym none)
        (subst (λ (values : List Value). Follows [] old.copies new.copies values (gave_by call) (λ link. told_by link call)) (sym unmade)
        (subst (λ (gifts : List Gift). Follows [] old.copies new.copies [] gifts (λ link. told_by link call)) (sym ungiven)
        (subst (λ (tells : ℕ → Told). Follows [] old.copies new.copies [] [] tells) (sym untold)
        (subst (λ (s : SpreadState). Follows [] old.copies s [] [] tells_nothing) (sym (ap (λ (b : BlockState). b.copies) is ∙ same)) (nothing_follows old.copies)))));
    kind = ap (λ (b : BlockState). b.kind) is ∙ kind;
  }

  faults_stay : (number : ℕ) (ended : Bool) → ((cond ended old (stops_by (Faulted number) old)).copies ≡ old.copies)
      × ((cond ended old (stops_by (Faulted number) old)).kind ≡ old.kind)
  faults_stay number true = (refl, refl)
  faults_stay number false = (refl, refl)

  wish_stays : (place : Option ℕ) → ((wishes place old).copies ≡ old.copies) × ((wishes place old).kind ≡ old.kind)
  wish_stays None = (refl, refl)
  wish_stays (Some p) = (refl, refl)

  -- A broadcast copies its next message

  broadcast_alone : (kind : BlockKind) (ports : ℕ) → is_one_taker kind ≡ false → makes_alone kind ports ≡ true → kind ≡ Broadcast
  broadcast_alone Broadcast ports copies alone = refl
  broadcast_alone WriteOnce ports copies alone = absurd (cc)
  broadcast_alone _ ports copies alone = absurd (cc)

  abbrev made_by_kind : BlockKind → List Value
  made_by_kind kind = made_by_unit (unit_of kind) old

  abbrev next_by_kind : BlockKind → BlockState
  next_by_kind kind = goes_on_by_unit (unit_of kind) old

  copied_where : (held : List Value) → is_empty held ≡ false → is_spread_free old.copies ≡ true → old.copies.id + 1 < 2 ^ 59
      → Follows (puts_of (take 1 held)) old.copies (copies_next (first_of held) old).copies (take 1 held) [] tells_nothing
  copied_where [] some free ids = absurd (cc)
  copied_where (value ∷ held) some free ids = put_follows value old.copies free ids

  copied_kind : (first : Option Value) → (copies_next first old).kind ≡ old.kind
  copied_kind None = refl
  copied_kind (Some value) = refl

  made_follows : Makes false old → new ≡ makes_its_next old → CallFollows (Call.acts (BlockCall.made (Ok true))) old new
  made_follows may is =
      let both = and_parts (makes_alone old.kind (length old.ports)) (has_turn (is_broadcast old.kind) old) may.by_itself in
      let broadcast = broadcast_alone old.kind (length old.ports) copies both.0 in
      let turn : would_copy old ≡ true = subst (λ (k : BlockKind). has_turn (is_broadcast k) old ≡ true) broadcast both.1 in
      let outer = and_parts (is_none old.stopped && not (is_empty (held_by old))) (is_spread_free old.copies) turn in
      let some = not-true (is_empty (held_by old)) (and_parts (is_none old.stopped) (not (is_empty (held_by old))) outer.0).1 in
      let lacks : leb (2 ^ 59) (old.copies.id + 1) ≡ false =
      sym (ap (λ (k : BlockKind). cond (is_broadcast k) (leb (2 ^ 59) (old.copies.id + 1)) (lacks_ids (made_next old) old.exits)) broadcast) ∙ may.ids in
      let made : made_next old ≡ take 1 (held_by old) = ap made_by_kind broadcast in
      let next : makes_its_next old ≡ copies_next (first_of (held_by old)) old = ap next_by_kind broadcast in
      record {
        follows =
            subst (λ (values : List Value). Follows (puts_of values) old.copies new.copies values [] tells_nothing) (sym made)
            (subst (λ (b : BlockState). Follows (puts_of (take 1 (held_by old))) old.copies b.copies (take 1 (held_by old)) [] tells_nothing) (sym (is ∙ next))
            (copied_where (held_by old) some outer.1 (leb-false (2 ^ 59) (old.copies.id + 1) lacks)));
        kind = ap (λ (b : BlockState). b.kind) (is ∙ next) ∙ copied_kind (first_of (held_by old));
      }

  -- A write-once block copies what comes

  at_once : (arrived : BlockState) (once : Bool) → copies_at_once arrived ≡ once → arrived.copies ≡ old.copies → arrived.kind ≡ old.kind
      → Follows (puts_of (cond once (take 1 (held_by arrived)) [])) old.copies (copies_where once arrived).copies (cond once (take 1 (held_by arrived)) []) [] tells_nothing
      × ((copies_where once arrived).kind ≡ old.kind)
  at_once arrived false is same kind = (subst (λ (s : SpreadState). Follows [] old.copies s [] [] tells_nothing) (sym same) (nothing_follows old.copies), kind)
  at_once arrived true is same kind =
      let e1 = and_parts (is_write_once arrived.kind && length arrived.ports == 1 && not (is_empty (held_by arrived)) && is_spread_free arrived.copies)
      (ltb (arrived.copies.id + 1) (2 ^ 59)) is in
      let e2 = and_parts (is_write_once arrived.kind && length arrived.ports == 1 && not (is_empty (held_by arrived))) (is_spread_free arrived.copies) e1.0 in
      let e3 = and_parts (is_write_once arrived.kind && length arrived.ports == 1) (not (is_empty (held_by arrived))) e2.0 in
      first_copied (held_by arrived) (not-true (is_empty (held_by arrived)) e3.1)
      (subst (λ (s : SpreadState). is_spread_free s ≡ true) same e2.1)
      (subst (λ (s : SpreadState). s.id + 1 < 2 ^ 59) same (ltb-true (arrived.copies.id + 1) (2 ^ 59) e1.1))
    where
      first_copied : (held : List Value) → is_empty held ≡ false → is_spread_free old.copies ≡ true → old.copies.id + 1 < 2 ^ 59
          → Follows (puts_of (take 1 held)) old.copies (copies_next (first_of held) arrived).copies (take 1 held) [] tells_nothing
          × ((copies_next (first_of held) arrived).kind ≡ old.kind)
      first_copied [] some free ids = absurd (cc)
      first_copied (value ∷ held) some free ids = (
        subst (λ (s : SpreadState). Follows (puts_of (value ∷ [])) old.copies (puts value s) (value ∷ []) [] tells_nothing) (sym same)
            (put_follows value old.copies free ids),
        kind,
      )

  -- It offers, is answered, and gives

  source_copies : (link : ℕ) → source_by (shares old) old link ≡ copy_over old.copies link
  source_copies link = ap (λ (one : Bool). source_by one old link) copies

  named_where : (stopped here : Bool) (place : Option ℕ) (k : ℕ) → cond stopped None (cond here place None) ≡ Some k → place ≡ Some k
  named_where true here place k e = absurd (cc)
  named_where false true place k e = e
  named_where false false place k e = absurd (cc)

  offered_where : (place : Option ℕ) → offer_next old ≡ place
      → Follows (offers_of place) old.copies (offered_by false place old).copies [] [] tells_nothing × ((offered_by false place old).kind ≡ old.kind)
  offered_where None is = (nothing_follows old.copies, refl)
  offered_where (Some k) is = (offer_follows old.copies k (next_where (next_place old.copies) k next), refl)
    where
      next : cond (is_some old.stopped) None (copies_over old.copies (next_place old.copies)) ≡ Some k
      next = sym (ap (λ (one : Bool). cond (is_some old.stopped) None (offer_by one old)) copies) ∙ is

      next_where : (place : Option ℕ) (k : ℕ) → cond (is_some old.stopped) None (copies_over old.copies place) ≡ Some k → place ≡ Some k
      next_where None k e = absurd (none_named (is_some old.stopped) e)
        where
          none_named : (stopped : Bool) → cond stopped None None ≡ Some k → ⊥
          none_named true e = absurd (cc)
          none_named false e = absurd (cc)
      next_where (Some j) k e = named_where (is_some old.stopped) (carries_copy j old.copies.ends) (Some j) k e

  -- what it tells that a link took a message, or none
  abbrev told_of : ℕ → ℕ → Option Value → ℕ → Told
  told_of link header value id = told_by id (Call.gives (SourceCall.consumed link header value))

  consumed_where : (link header : ℕ) (value : Option Value) (taken : Bool) → may_take_copy link header old.copies ≡ taken
      → value ≡ cond taken old.copies.element None
      → Follows (gives_of (place_of link old.copies.ends) header value) old.copies (cond taken (copies_home link header old) old).copies [] (gifts_of link value) (told_of link header value)
      × ((cond taken (copies_home link header old) old).kind ≡ old.kind)
  consumed_where link header None false is told = (nothing_follows old.copies, refl)
  consumed_where link header (Some value) false is told = absurd (cc)
  consumed_where link header None true is told =
      let some = (and_parts (is_some old.copies.element) (tests_consume (place_of link old.copies.ends) header old.copies)
      (and_parts (is_some old.copies.element && tests_consume (place_of link old.copies.ends) header old.copies)
      (is_there (place_of link old.copies.ends) header old.copies) is).0).0 in
      let none : is_some old.copies.element ≡ false = ap is_some (sym told) in absurd (cc)
  consumed_where link header (Some value) true is told = (gift_follows old.copies link header value (sym told) is, refl)

  kept_where : (link header : ℕ) (kept keep : Bool) → may_keep_copy link header old.copies ≡ keep → kept ≡ keep
      → Follows (calls_by (Call.gives (SourceCall.reserved link header kept)) old) old.copies (cond keep (keeps_copy link header old) old).copies [] [] tells_nothing
      × ((cond keep (keeps_copy link header old) old).kind ≡ old.kind)
  kept_where link header true true is told = (keep_follows old.copies link header is, refl)
  kept_where link header false false is told = (nothing_follows old.copies, refl)
  kept_where link header true false is told = absurd (cc)
  kept_where link header false true is told = absurd (cc)

  acts_follow : (call : BlockCall) → Does (Call.acts call) old new → CallFollows (Call.acts call) old new
  acts_follow (BlockCall.completed p) does = stays (Call.acts (BlockCall.completed p)) (with_port p port_closes old) does refl refl refl refl refl refl
  acts_follow (BlockCall.faulted number) does =
      let same = faults_stay number (is_some (outcome_of old)) in
      stays (Call.acts (BlockCall.faulted number)) (faults number old) does same.0 same.1 refl refl refl refl
  acts_follow (BlockCall.made (Ok true)) does = made_follows does.0 does.1
  acts_follow (BlockCall.made (Ok false)) does = stays (Call.acts (BlockCall.made (Ok false))) old does.1 refl refl refl refl refl refl
  acts_follow (BlockCall.made (Err make_fault.Ids)) does = stays (Call.acts (BlockCall.made (Err make_fault.Ids))) old does.1 refl refl refl refl refl refl
  acts_follow (BlockCall.made (Err make_fault.Memory)) does = stays (Call.acts (BlockCall.made (Err make_fault.Memory))) old does.1 refl refl refl refl refl refl

  gives_follow : (call : SourceCall) → MayCall (Call.gives call) old → Does (Call.gives call) old new → CallFollows (Call.gives call) old new
  gives_follow (SourceCall.offered offer) may does =
      let after = offered_where (offer_next old) refl in
      let is : new ≡ offered_by false (offer_next old) old = does.1 ∙ ap (λ (one : Bool). offered_by one (offer_next old) old) copies in
      record {
        follows = subst (λ (b : BlockState). Follows (offers_of (offer_next old)) old.copies b.copies [] [] tells_nothing) (sym is) after.0;
        kind = ap (λ (b : BlockState). b.kind) is ∙ after.1;
      }
  gives_follow (SourceCall.noted link header how) may does =
      let is : new ≡ answered_by false link header how old = does ∙ ap (λ (one : Bool). answered_by one link header how old) copies in
      record {
        follows = subst (λ (b : BlockState). Follows (copied.Call.answer (place_of link old.copies.ends) header how ∷ []) old.copies b.copies [] [] (λ id. told_by id (Call.gives (SourceCall.noted link header how)))) (sym is)
            (answer_follows old.copies link header how (sym (source_copies link) ∙ may));
        kind = ap (λ (b : BlockState). b.kind) is;
      }
  gives_follow (SourceCall.consumed link header value) may does =
      let told : value ≡ taken_by false link header old = does.0 ∙ ap (λ (one : Bool). taken_by one link header old) copies in
      let is : new ≡ given_by false link header old = does.1 ∙ ap (λ (one : Bool). given_by one link header old) copies in
      let after = consumed_where link header value (may_take_copy link header old.copies) refl told in
      record {
        follows = subst (λ (b : BlockState). Follows (gives_of (place_of link old.copies.ends) header value) old.copies b.copies [] (gifts_of link value) (told_of link header value)) (sym is) after.0;
        kind = ap (λ (b : BlockState). b.kind) is ∙ after.1;
      }
  gives_follow (SourceCall.reserved link header kept) may does =
      let told : kept ≡ may_keep_copy link header old.copies = does.0 ∙ ap (λ (one : Bool). kept_by one link header old) copies in
      let is : new ≡ reserved_by false link header old = does.1 ∙ ap (λ (one : Bool). reserved_by one link header old) copies in
      let after = kept_where link header kept (may_keep_copy link header old.copies) refl told in
      record {
        follows = subst (λ (b : BlockState). Follows (calls_by (Call.gives (SourceCall.reserved link header kept)) old) old.copies b.copies [] [] tells_nothing) (sym is) after.0;
        kind = ap (λ (b : BlockState). b.kind) is ∙ after.1;
      }
  gives_follow (SourceCall.released link header) may does =
      let is : new ≡ released_by false link header old = does ∙ ap (λ (one : Bool). released_by one link header old) copies in
      record {
        follows = subst (λ (b : BlockState). Follows (releases_of (place_of link old.copies.ends) header) old.copies b.copies [] [] tells_nothing) (sym is)
            (release_follows old.copies link header (sym (source_copies link) ∙ may));
        kind = ap (λ (b : BlockState). b.kind) is;
      }

  takes_follow : (call : TargetCall) → Does (Call.takes call) old new → CallFollows (Call.takes call) old new
  takes_follow (TargetCall.offered link header may_postpone how) does =
      stays (Call.takes (TargetCall.offered link header may_postpone how)) (with_port_of link (answered link header how) old) does.1 refl refl refl refl refl refl
  takes_follow (TargetCall.handed link header value) does =
      let arrived = with_port_of link (arrives link value) old in
      let after = at_once arrived (copies_at_once arrived) refl refl refl in
      record {
        follows = subst (λ (b : BlockState). Follows (puts_of (copied_at_once arrived)) old.copies b.copies (copied_at_once arrived) [] tells_nothing) (sym does) after.0;
        kind = ap (λ (b : BlockState). b.kind) does ∙ after.1;
      }
  takes_follow (TargetCall.wished told) does =
      let same = wish_stays (wishing_port old.ports) in
      stays (Call.takes (TargetCall.wished told)) (wishes (wishing_port old.ports) old) does.1 same.0 same.1 refl refl refl refl
  takes_follow (TargetCall.noted link told) does =
      stays (Call.takes (TargetCall.noted link told)) (with_port_of link (notes told link) old) does refl refl refl refl refl refl

  pub call_follows : (call : Call) → MayCall call old → Does call old new → CallFollows call old new
  call_follows (Call.acts call) may does = acts_follow call does
  call_follows (Call.gives call) may does = gives_follow call may does
  call_follows (Call.takes call) may does = takes_follow call does
  call_follows Call.asked may does =
      let same = settled (may_finish old) in
      stays Call.asked (settles old) does same.0 same.1 refl refl refl refl
    where
      settled : (finished : Bool) → ((cond finished (stops_by Done old) old).copies ≡ old.copies)
          × ((cond finished (stops_by Done old) old).kind ≡ old.kind)
      settled true = (refl, refl)
      settled false = (refl, refl)

-- Over all

abbrev pub all_by : List (Step Call BlockState) → BlockState → List copied.Call
all_by [] block = []
all_by (step ∷ steps) block = calls_by step.call block ++ all_by steps step.left

pub record AllFollow (steps : List (Step Call BlockState)) (block : BlockState) (h : History) : Type 0 where
  pub calls : AllMade (all_by steps block) (course block.copies)
  pub after : copied.after_all (all_by steps block) (course block.copies) ≡ course (after_all steps block).copies
  pub made : (history_of came_by made_by gave_by steps block h).made ≡ h.made ++ copied.put_in (all_by steps block)
  pub gave : (k : ℕ) → k < length block.copies.ends → NamesItself block.copies k
      → given_over (link_id block.copies k) (history_of came_by made_by gave_by steps block h).gave
      ≡ given_over (link_id block.copies k) h.gave ++ copied.given_in k (all_by steps block) (course block.copies)
  pub told : (k : ℕ) → k < length block.copies.ends → NamesItself block.copies k
      → told_in k (all_by steps block) (course block.copies) ≡ told_over (link_id block.copies k) steps

given_more : (link : ℕ) (gifts more : List Gift) → given_over link (gifts ++ more) ≡ given_over link gifts ++ given_over link more
given_more link [] more = refl
given_more link (gift ∷ gifts) more = one (gift.link == link) (given_more link gifts more)
  where
    one : (here : Bool) → given_over link (gifts ++ more) ≡ given_over link gifts ++ given_over link more
        → cond here (gift.value ∷ given_over link (gifts ++ more)) (given_over link (gifts ++ more))
        ≡ cond here (gift.value ∷ given_over link gifts) (given_over link gifts) ++ given_over link more
    one true rest = ap (λ (values : List Value). gift.value ∷ values) rest
    one false rest = rest

pub all_follow : (steps : List (Step Call BlockState)) (block : BlockState) (h : History) → is_one_taker block.kind ≡ false
    → AllDone Fits MayCall Does steps block → AllFollow steps block h
all_follow [] block h copies done = record {
  calls = tt;
  after = refl;
  made = sym (append-nil h.made);
  gave = λ k l own. sym (append-nil (given_over (link_id block.copies k) h.gave));
  told = λ k l own. refl;
}
all_follow (step ∷ steps) block h copies done =
    let one = call_follows block step.left copies step.call done.0 done.1.0 in
    let calls = calls_by step.call block in
    let more = all_by steps step.left in
    let c = course block.copies in
    let then_copies : is_one_taker step.left.kind ≡ false = ap is_one_taker one.kind ∙ copies in
    let rest = all_follow steps step.left (noted came_by made_by gave_by step.call block h) then_copies done.1.1.1 in
    let links = one.follows.links in
    let near = λ (k : ℕ) (l : k < length block.copies.ends).
    (let count = links.count in let is : k < length step.left.copies.ends = omega (arith, l, count) in is) in
    let own_then = λ (k : ℕ) (own : NamesItself block.copies k).
    (let is : NamesItself step.left.copies k =
    links.places (link_id step.left.copies k) ∙ ap (λ (n : ℕ). place_of n block.copies.ends) (links.ids k) ∙ own in is) in
    record {
      calls = made_both calls more c one.follows.made
          (subst (λ (d : copied.Course). AllMade more d) (sym one.follows.after) rest.calls);
      after = after_both calls more c ∙ ap (copied.after_all more) one.follows.after ∙ rest.after;
      made =
          rest.made ∙ append_assoc h.made (made_by step.call block) (copied.put_in more)
          ∙ ap (λ (values : List Value). h.made ++ (values ++ copied.put_in more)) (sym one.follows.put)
          ∙ ap (λ (values : List Value). h.made ++ values) (sym (put_both calls more));
      gave = λ k l own.
          let id = link_id block.copies k in
          let later : given_over id (history_of came_by made_by gave_by steps step.left (noted came_by made_by gave_by step.call block h)).gave
          ≡ given_over id (h.gave ++ gave_by step.call) ++ copied.given_in k more (course step.left.copies) =
          subst (λ (n : ℕ). given_over n (history_of came_by made_by gave_by steps step.left (noted came_by made_by gave_by step.call block h)).gave
          ≡ given_over n (h.gave ++ gave_by step.call) ++ copied.given_in k more (course step.left.copies)) (links.ids k) (rest.gave k (near k l) (own_then k own)) in
          later
          ∙ ap (λ (values : List Value). values ++ copied.given_in k more (course step.left.copies)) (given_more id h.gave (gave_by step.call))
          ∙ append_assoc (given_over id h.gave) (given_over id (gave_by step.call)) (copied.given_in k more (course step.left.copies))
          ∙ ap (λ (values : List Value). given_over id h.gave ++ (values ++ copied.given_in k more (course step.left.copies))) (sym (one.follows.given k l own))
          ∙ ap (λ (d : copied.Course). given_over id h.gave ++ (copied.given_in k calls c ++ copied.given_in k more d)) (sym one.follows.after)
          ∙ ap (λ (values : List Value). given_over id h.gave ++ values) (sym (given_both k calls more c));
      told = λ k l own.
          let id = link_id block.copies k in
          let later : told_in k more (course step.left.copies) ≡ told_over id steps =
          rest.told k (near k l) (own_then k own) ∙ ap (λ (n : ℕ). told_over n steps) (links.ids k) in
          told_all_both k calls more c
          ∙ ap (λ (d : copied.Course). told_both (told_in k calls c) (told_in k more d)) one.follows.after
          ∙ ap₂ told_both (one.follows.told k l own) later;
    }

-- From a new block on

module _ (kind : BlockKind) (lanes size : ℕ) (ports : List PortState) (rules : List LinkRule) (copies : is_one_taker kind ≡ false) where
  abbrev fresh : BlockState
  fresh = fresh_block kind lanes size ports rules

  abbrev pub copied_are : List LinkRule
  copied_are = copied_rules kind rules

  pub near_end : (k : ℕ) → k < length rules → k < length copied_are
  near_end k l = subst (λ (rs : List LinkRule). k < length rs) (sym (ap (λ (one : Bool). cond one [] rules) copies)) l

  pub there_end : (k : ℕ) → k < length rules → k < length fresh.copies.ends
  there_end k l = (let near = near_end k l in let count = length-map copied_are fresh_end in omega (arith, near, count))

  -- what is known of a link by the copies' own calls, where it is known of what was given, made and told by the block's
  pub by_its_calls : (P : List Value → List Value → Told → SpreadState → Type 0) (steps : List (Step Call BlockState)) → AllFollow steps fresh nothing_yet
      → (k : ℕ) → k < length rules → NamesItself fresh.copies k
      → P (copied.given_in k (all_by steps fresh) (course fresh.copies)) (copied.put_in (all_by steps fresh))
      (told_in k (all_by steps fresh) (course fresh.copies)) (copied.after_all (all_by steps fresh) (course fresh.copies)).spread
      → P (given_over (link_id fresh.copies k) (history_of came_by made_by gave_by steps fresh nothing_yet).gave)
      (history_of came_by made_by gave_by steps fresh nothing_yet).made (told_over (link_id fresh.copies k) steps) (after_all steps fresh).copies
  by_its_calls P steps all k l own has =
      let there = there_end k l in
      let calls = all_by steps fresh in
      let c = course fresh.copies in
      let id = link_id fresh.copies k in
      let history = history_of came_by made_by gave_by steps fresh nothing_yet in
      subst (λ (values : List Value). P values history.made (told_over id steps) (after_all steps fresh).copies) (sym (all.gave k there own))
      (subst (λ (values : List Value). P (copied.given_in k calls c) values (told_over id steps) (after_all steps fresh).copies) (sym all.made)
      (subst (λ (told : Told). P (copied.given_in k calls c) (copied.put_in calls) told (after_all steps fresh).copies) (all.told k there own)
      (subst (λ (d : copied.Course). P (copied.given_in k calls c) (copied.put_in calls) (told_in k calls c) d.spread) all.after has)))

  -- whatever targets answer
  pub accounts_are : (steps : List (Step Call BlockState)) → AllDone Fits MayCall Does steps fresh → (k : ℕ) → k < length rules → NamesItself fresh.copies k
      → LinkAccounts 1 (given_over (link_id fresh.copies k) (history_of came_by made_by gave_by steps fresh nothing_yet).gave)
      (history_of came_by made_by gave_by steps fresh nothing_yet).made (told_over (link_id fresh.copies k) steps) k (after_all steps fresh).copies
  accounts_are steps done k l own =
      let all = all_follow steps fresh nothing_yet copies done in
      by_its_calls (λ given made told s. LinkAccounts 1 given made told k s) steps all k l own
      (each_link_accounts.each (is_write_once kind) true copied_are 1 (omega arith) (omega arith) (all_by steps fresh) all.calls k (near_end k l))
