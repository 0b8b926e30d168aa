-- By a call that all blocks have in common a block that shares its messages out gives them by the rules of its links, in order.
use Rattle.std.proofs.Common.{◌≡◌, ℕ, ◌<◌, ◌^◌, ◌+◌, leb, Bool, true, false, cond, is_some, List, [], ◌∷◌, ◌++◌, length, take, Option, Some, None, Ok, Err, refl, ap, sym, subst, ◌∙◌, append-nil, not, ◌==◌}
use Rattle.std.proofs.lemmas.Bool.{and_parts, not-true}
use Rattle.flow_value.specs.declared.value.Value.{Value}
use Rattle.flow_link.specs.declared.draft.BlockKind.{BlockKind}
use Rattle.flow_link.specs.declared.draft.BlockKind.TheVariants.{Buffer, Batch, Join}
use Rattle.flow_link.specs.declared.trace.Outcome.{Outcome}
use Rattle.flow_link.specs.declared.trace.Outcome.TheVariants.{Done, Faulted}
use Rattle.flow_link.specs.declared.traits.MakeFault.TheVariants as make_fault
use Rattle.flow_link.specs.BlockCalls.{BlockCall}
use Rattle.flow_link.specs.Plan.{is_broadcast, is_one_taker}
use Rattle.flow_link.specs.SourceCalls.{SourceCall}
use Rattle.flow_link.specs.TargetCalls.{TargetCall}
use Rattle.flow_link.specs.Kinds.{unit_of}
use Rattle.flow_intake.specs.Calls.{first_of, port_closes}
use Rattle.flow_intake.specs.ByLink.{answered, arrives}
use Rattle.flow_group.specs.Tuple.{tuple_of}
use Rattle.flow_outlet.specs.ByLink.{place_of, is_head, is_there, tests_consume, consumed, gives_home}
use Rattle.flow_outlet.specs.Law.{may_go_past}
use Rattle.flow_outlet.specs.Outlet.{OutletState, head_of, may_offer, lacks_ids, is_empty, end_at}
use Rattle.flow_block.specs.Block.{BlockState, held_by, row_of, next_group, with_port, puts_out, copies_next, copies_at_once, copies_where, copies_taken, stops_by}
use Rattle.flow_block.specs.Traits.{settles, outcome_of, faults, makes_alone, has_turn, makes_its_next, Makes, carries, offers_over, source_by, offer_by, offer_next, offered_by, answered_by, may_take, taken_by, gives_over, given_by, with_port_of, wishing_port, wishes, notes, made_by_unit, goes_on_by_unit, may_keep, keeps_head, reserved_by, released_by}
use Rattle.flow_block.specs.Peeks.{may_finish}
use Rattle.flow_block.proofs.HeadKept.{may_reserve, is_reserved}
use Rattle.flow_block.proofs.SourceStands.{there_is_head}
use Rattle.flow_kinds.proofs.KindsStay.{settles_stay, acts_stay, gives_stay, takes_stay}
use Rattle.flow_history.specs.Calls.{Call, MayCall, Does}
use Rattle.flow_history.specs.History.{Gift, gifts_of, gave_by}
use Rattle.flow_history.specs.Ordered.{AnswersSteadily, GoesInOrder}
use Rattle.flow_history.proofs.ExitsGo.{no_head}
use Rattle.flow_history.proofs.RulesKept.{GoesByRule, puts_by_rule, offers_by_rule, answers_by_rule, gives_by_rule, goes_past, reserves_by_rule, releases_by_rule}

-- a call that may be made; where targets are asked to, one answers by rule
abbrev pub MayCallAsked : Bool → Call → BlockState → Type 0
MayCallAsked sure call block = MayCall call block × (sure ≡ true → AnswersSteadily call block.exits)

-- What is made is put behind the rest

module _ (sure : Bool) (gave : List Gift) (old : BlockState) (goes : GoesByRule sure gave old.exits) where
  handed_by_rule : (held : List Value) → lacks_ids (take 1 held) old.exits ≡ false → GoesByRule sure gave (puts_out (take 1 held) old).exits
  handed_by_rule [] has = goes
  handed_by_rule (value ∷ held) has = puts_by_rule sure gave old.exits (value ∷ []) _ has goes

  abbrev made_by_kind : BlockKind → List Value
  made_by_kind kind = made_by_unit (unit_of kind) old

  abbrev next_by_kind : BlockKind → BlockState
  next_by_kind kind = goes_on_by_unit (unit_of kind) old

  by_kind : (kind : BlockKind) (ports : ℕ) → is_one_taker kind ≡ true → makes_alone kind ports ≡ true
      → cond (is_broadcast kind) (leb (2 ^ 59) (old.copies.id + 1)) (lacks_ids (made_by_kind kind) old.exits) ≡ false
      → GoesByRule sure gave (next_by_kind kind).exits
  by_kind Buffer ports one alone has = handed_by_rule (held_by old) has
  by_kind Batch ports one alone has = puts_by_rule sure gave old.exits (row_of (next_group old) ∷ []) _ has goes
  by_kind Join ports one alone has = puts_by_rule sure gave old.exits (tuple_of old.ports ∷ []) _ has goes
  by_kind _ ports one alone has = absurd (cc)

  made_by_rule : is_one_taker old.kind ≡ true → Makes false old → GoesByRule sure gave (makes_its_next old).exits
  made_by_rule one may =
      let alone = (and_parts (makes_alone old.kind (length old.ports)) (has_turn (is_broadcast old.kind) old) may.by_itself).0 in
      by_kind old.kind (length old.ports) one alone may.ids

  -- exits that stay

  stopped_stay : (ended : Bool) (how : Outcome) → (cond ended old (stops_by how old)).exits ≡ old.exits
  stopped_stay true how = refl
  stopped_stay false how = refl

  wished_stay : (place : Option ℕ) → (wishes place old).exits ≡ old.exits
  wished_stay None = refl
  wished_stay (Some p) = refl

  copied_stay : (arrived : BlockState) (once : Bool) → (copies_where once arrived).exits ≡ arrived.exits
  copied_stay arrived true = next_stays (first_of (held_by arrived))
    where
      next_stays : (first : Option Value) → (copies_next first arrived).exits ≡ arrived.exits
      next_stays None = refl
      next_stays (Some value) = refl
  copied_stay arrived false = refl

  offered_by_rule : (place : Option ℕ) → offer_next old ≡ place → is_one_taker old.kind ≡ true → GoesByRule sure gave (offered_by true place old).exits
  offered_by_rule None is one = goes
  offered_by_rule (Some k) is one = offers_by_rule sure gave old.exits k (named (may_offer old.exits) next) goes
    where
      next : cond (is_some old.stopped) None (offers_over old.exits (may_offer old.exits)) ≡ Some k
      next = sym (ap (λ (b : Bool). cond (is_some old.stopped) None (offer_by b old)) one) ∙ is

      from_where : (stopped here : Bool) (j : ℕ) → cond stopped None (cond here (Some j) None) ≡ Some k → Some j ≡ Some k
      from_where true here j e = absurd (cc)
      from_where false true j e = e
      from_where false false j e = absurd (cc)

      none_named : (stopped : Bool) → cond stopped None None ≡ Some k → ⊥
      none_named true e = absurd (cc)
      none_named false e = absurd (cc)

      named : (place : Option ℕ) → cond (is_some old.stopped) None (offers_over old.exits place) ≡ Some k → place ≡ Some k
      named None e = absurd (none_named (is_some old.stopped) e)
      named (Some j) e = from_where (is_some old.stopped) (carries j old.exits.ends) j e

  nothing_given : (value : Option Value) (link : ℕ) → value ≡ None → GoesByRule sure (gave ++ gifts_of link value) old.exits
  nothing_given value link none =
      subst (λ (gifts : List Gift). GoesByRule sure gifts old.exits)
      (sym (ap (λ (v : Option Value). gave ++ gifts_of link v) none ∙ append-nil gave)) goes

  -- the head, where it is given
  head_is : (link header : ℕ) (value : Value) → is_there (place_of link old.exits.ends) header old.exits ≡ true → Some value ≡ consumed link header old.exits → head_of old.exits ≡ Some value
  head_is link header value there told = sym (told ∙ ap (λ (b : Bool). cond b (head_of old.exits) None) there)

  head_there : (link header : ℕ) → may_take link header old.exits ≡ true → is_there (place_of link old.exits.ends) header old.exits ≡ true
  head_there link header takes =
      let k = place_of link old.exits.ends in
      (and_parts (tests_consume k header old.exits) (is_there k header old.exits) takes).1

  consumed_by_rule : (link header : ℕ) (value : Option Value) (taken : Bool) → may_take link header old.exits ≡ taken
      → value ≡ cond taken (consumed link header old.exits) None → GoesByRule sure (gave ++ gifts_of link value) (cond taken (gives_over link header old) old).exits
  consumed_by_rule link header value false takes told = nothing_given value link told
  consumed_by_rule link header None true takes told =
      absurd (none_taken (there_is_head old.exits (place_of link old.exits.ends) header (head_there link header takes)) (told ∙ ap (λ (b : Bool). cond b (head_of old.exits) None) (head_there link header takes)))
    where
      none_taken : is_head header old.exits ≡ true → None ≡ head_of old.exits → ⊥
      none_taken head none =
          no_head old.exits.left (not-true (is_empty old.exits.left) (and_parts (header == old.exits.next) (not (is_empty old.exits.left)) head).1) none
  consumed_by_rule link header (Some value) true takes told =
      let head = head_there link header takes in
      subst (λ (o : OutletState). GoesByRule sure (gave ++ gifts_of link (Some value)) o)
      (sym (ap (λ (b : Bool). record (cond b (gives_home (place_of link old.exits.ends) header old.exits) old.exits) { room = 0 }) head))
      (gives_by_rule sure gave old.exits goes link header value (head_is link header value head told) takes)

-- One call

module _ (sure : Bool) (gave : List Gift) (old new : BlockState) (one : is_one_taker old.kind ≡ true) (goes : GoesByRule sure gave old.exits) where
  stays_so : (block : BlockState) → new ≡ block → block.exits ≡ old.exits → GoesByRule sure (gave ++ []) new.exits
  stays_so block is same =
      subst (λ (gifts : List Gift). GoesByRule sure gifts new.exits) (sym (append-nil gave))
      (subst (λ (o : OutletState). GoesByRule sure gave o) (sym (ap (λ (b : BlockState). b.exits) is ∙ same)) goes)

  becomes : (block : BlockState) → new ≡ block → GoesByRule sure gave block.exits → GoesByRule sure (gave ++ []) new.exits
  becomes block is after =
      subst (λ (gifts : List Gift). GoesByRule sure gifts new.exits) (sym (append-nil gave))
      (subst (λ (b : BlockState). GoesByRule sure gave b.exits) (sym is) after)

  acted : (call : BlockCall) → Does (Call.acts call) old new → GoesByRule sure (gave ++ []) new.exits
  acted (BlockCall.completed p) does = stays_so (with_port p port_closes old) does refl
  acted (BlockCall.faulted number) does =
      stays_so (faults number old) does (stopped_stay sure gave old goes (is_some (outcome_of old)) (Faulted number))
  acted (BlockCall.made (Ok true)) does = becomes (makes_its_next old) does.1 (made_by_rule sure gave old goes one does.0)
  acted (BlockCall.made (Ok false)) does = stays_so old does.1 refl
  acted (BlockCall.made (Err make_fault.Ids)) does = stays_so old does.1 refl
  acted (BlockCall.made (Err make_fault.Memory)) does = stays_so old does.1 refl

  given_so : (call : SourceCall) → MayCallAsked sure (Call.gives call) old → Does (Call.gives call) old new
      → GoesByRule sure (gave ++ gave_by (Call.gives call)) new.exits
  given_so (SourceCall.offered offer) may does =
      becomes (offered_by true (offer_next old) old) (does.1 ∙ ap (λ (b : Bool). offered_by b (offer_next old) old) one)
      (offered_by_rule sure gave old goes (offer_next old) refl one)
  given_so (SourceCall.noted link header how) may does =
      becomes (answered_by true link header how old) (does ∙ ap (λ (b : Bool). answered_by b link header how old) one)
      (answers_by_rule sure gave old.exits link header how (sym (ap (λ (b : Bool). source_by b old link) one) ∙ may.0) may.1 goes)
  given_so (SourceCall.consumed link header value) may does =
      let is : new ≡ given_by true link header old = does.1 ∙ ap (λ (b : Bool). given_by b link header old) one in
      let told : value ≡ taken_by true link header old = does.0 ∙ ap (λ (b : Bool). taken_by b link header old) one in
      subst (λ (b : BlockState). GoesByRule sure (gave ++ gifts_of link value) b.exits) (sym is)
      (consumed_by_rule sure gave old goes link header value (may_take link header old.exits) refl told)
  given_so (SourceCall.reserved link header kept) may does =
      becomes (reserved_by true link header old) (does.1 ∙ ap (λ (b : Bool). reserved_by b link header old) one)
      (kept_by_rule (may_keep link header old.exits) refl)
    where
      kept_by_rule : (keep : Bool) → may_keep link header old.exits ≡ keep
          → GoesByRule sure gave (cond keep (keeps_head link header old) old).exits
      kept_by_rule true is = reserves_by_rule sure gave old.exits link header (may_reserve old.exits link header is) goes
      kept_by_rule false is = goes
  given_so (SourceCall.released link header) may does =
      becomes (released_by true link header old) (does ∙ ap (λ (b : Bool). released_by b link header old) one)
      (releases_by_rule sure gave old.exits link header
      (is_reserved old.exits link header (sym (ap (λ (b : Bool). source_by b old link) one) ∙ may.0)) goes)

  took_so : (call : TargetCall) → Does (Call.takes call) old new → GoesByRule sure (gave ++ []) new.exits
  took_so (TargetCall.offered link header may_postpone how) does = stays_so (with_port_of link (answered link header how) old) does.1 refl
  took_so (TargetCall.handed link header value) does =
      let arrived = with_port_of link (arrives link value) old in
      stays_so (copies_taken arrived) does (copied_stay sure gave old goes arrived (copies_at_once arrived))
  took_so (TargetCall.wished told) does = stays_so (wishes (wishing_port old.ports) old) does.1 (wished_stay sure gave old goes (wishing_port old.ports))
  took_so (TargetCall.noted link told) does = stays_so (with_port_of link (notes told link) old) does refl

  pub call_by_rule : (call : Call) → MayCallAsked sure call old → Does call old new → GoesByRule sure (gave ++ gave_by call) new.exits
  call_by_rule (Call.acts call) may does = acted call does
  call_by_rule (Call.gives call) may does = given_so call may does
  call_by_rule (Call.takes call) may does = took_so call does
  call_by_rule Call.asked may does = stays_so (settles old) does (settled (may_finish old))
    where
      settled : (finished : Bool) → (cond finished (stops_by Done old) old).exits ≡ old.exits
      settled true = refl
      settled false = refl

-- and in the order of the links, where targets answer by rule
module _ (gave : List Gift) (old new : BlockState) (one : is_one_taker old.kind ≡ true) (goes : GoesByRule true gave old.exits) where
  pub call_in_order : (call : Call) → Does call old new → GoesInOrder call old.exits
  call_in_order (Call.gives (SourceCall.consumed link header (Some value))) does =
      let told : Some value ≡ taken_by true link header old = does.0 ∙ ap (λ (b : Bool). taken_by b link header old) one in
      λ j before. taken_in_order (may_take link header old.exits) refl told j before
    where
      taken_in_order : (taken : Bool) → may_take link header old.exits ≡ taken → Some value ≡ cond taken (consumed link header old.exits) None
          → (j : ℕ) → j < place_of link old.exits.ends → may_go_past (Some value) (end_at old.exits j) ≡ true
      taken_in_order false takes told j before = absurd (cc)
      taken_in_order true takes told j before =
          goes_past gave old.exits goes link header value
          (head_is true gave old goes link header value (head_there true gave old goes link header takes) told) takes j before
  call_in_order (Call.gives (SourceCall.consumed link header None)) does = tt
  call_in_order (Call.gives (SourceCall.offered offer)) does = tt
  call_in_order (Call.gives (SourceCall.noted link header how)) does = tt
  call_in_order (Call.gives (SourceCall.reserved link header kept)) does = tt
  call_in_order (Call.gives (SourceCall.released link header)) does = tt
  call_in_order (Call.acts call) does = tt
  call_in_order (Call.takes call) does = tt
  call_in_order Call.asked does = tt

-- It stays of its kind

pub kind_stays : (old new : BlockState) (call : Call) → Does call old new → new.kind ≡ old.kind
kind_stays old new (Call.acts call) does = (acts_stay old new call does).kind
kind_stays old new (Call.gives call) does = (gives_stay old new call does).kind
kind_stays old new (Call.takes call) does = (takes_stay old new call does).kind
kind_stays old new Call.asked does = (settles_stay old new does).kind
