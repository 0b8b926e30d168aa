-- What becomes of what a block shares out, where a call makes nothing: the first of it is given, or it stays.
use Rattle.std.proofs.Common.{◌≡◌, ℕ, ◌+◌, ◌==◌, Bool, true, false, not, cond, is_some, List, [], ◌∷◌, Option, Some, None, Ok, Err, refl, ap, sym, subst, ◌∙◌}
use Rattle.std.proofs.lemmas.Bool.{and_parts, not-true}
use Rattle.flow_value.specs.declared.value.Value.{Value}
use Rattle.flow_link.specs.BlockCalls.{BlockCall}
use Rattle.flow_link.specs.Plan.{is_one_taker}
use Rattle.flow_link.specs.SourceCalls.{SourceCall}
use Rattle.flow_link.specs.TargetCalls.{TargetCall}
use Rattle.flow_link.specs.declared.trace.Outcome.{Outcome}
use Rattle.flow_link.specs.declared.trace.Outcome.TheVariants.{Done, Faulted}
use Rattle.flow_link.specs.declared.traits.MakeFault.TheVariants as make_fault
use Rattle.flow_intake.specs.ByLink.{answered}
use Rattle.flow_intake.specs.Calls.{port_closes}
use Rattle.flow_outlet.specs.ByLink.{place_of, is_head, is_there, tests_consume, consumed, gives_home, reserved, keeps}
use Rattle.flow_outlet.specs.Outlet.{OutletState, head_of, first_of, rest_of, is_empty, groups_after}
use Rattle.flow_block.specs.Block.{BlockState, with_port, stops_by}
use Rattle.flow_block.specs.Traits.{settles, outcome_of, faults, offer_next, offered_by, answered_by, taken_by, given_by, may_take, gives_over, with_port_of, wishing_port, wishes, notes, may_keep, keeps_head, reserved_by, released_by}
use Rattle.flow_block.specs.Peeks.{may_finish}
use Rattle.flow_block.proofs.SourceStands.{there_is_head}
use Rattle.flow_history.specs.Calls.{Call, Does}
use Rattle.flow_history.proofs.CallsLeave.{IsPlain}

-- the message that a call gives, if it gives one
abbrev pub given_value : Call → Option Value
given_value (Call.gives (SourceCall.consumed link header value)) = value
given_value _ = None

-- what is left, its first id and its weights stay
pub record SameExits (old new : OutletState) : Type 0 where
  pub left : new.left ≡ old.left
  pub next : new.next ≡ old.next
  pub groups : new.groups ≡ old.groups
  pub room : new.room ≡ old.room

-- the first of it is given
pub record GivesFirst (value : Value) (old new : OutletState) : Type 0 where
  pub head : first_of old.left ≡ Some value
  pub left : new.left ≡ rest_of old.left
  pub next : new.next ≡ old.next + 1
  pub groups : new.groups ≡ groups_after old.next old.groups
  pub room : new.room ≡ 0

abbrev pub Goes : Option Value → OutletState → OutletState → Type 0
Goes None old new = SameExits old new
Goes (Some value) old new = GivesFirst value old new

same_exits : (o : OutletState) → SameExits o o
same_exits o = record { left = refl; next = refl; groups = refl; room = refl }

pub no_head : (left : List Value) → is_empty left ≡ false → None ≡ first_of left → ⊥
no_head [] there none = absurd (cc)
no_head (v ∷ left) there none = absurd (cc)

module _ (old : BlockState) where
  exits_stopped : (ended : Bool) (how : Outcome) → SameExits old.exits (cond ended old (stops_by how old)).exits
  exits_stopped true how = same_exits old.exits
  exits_stopped false how = same_exits old.exits

  exits_offered : (place : Option ℕ) → SameExits old.exits (offered_by true place old).exits
  exits_offered None = same_exits old.exits
  exits_offered (Some k) = record { left = refl; next = refl; groups = refl; room = refl }

  exits_wished : (place : Option ℕ) → SameExits old.exits (wishes place old).exits
  exits_wished None = same_exits old.exits
  exits_wished (Some p) = same_exits old.exits

  -- the head is given

  exits_given : (link header : ℕ) (value : Option Value) → is_there (place_of link old.exits.ends) header old.exits ≡ true → value ≡ consumed link header old.exits
      → Goes value old.exits (gives_over link header old).exits
  exits_given link header value there is = of_value value (is ∙ ap (λ (b : Bool). cond b (head_of old.exits) None) there)
    where
      head : is_head header old.exits ≡ true
      head = there_is_head old.exits (place_of link old.exits.ends) header there

      some : is_empty old.exits.left ≡ false
      some = not-true (is_empty old.exits.left) (and_parts (header == old.exits.next) (not (is_empty old.exits.left)) head).1

      of_value : (value : Option Value) → value ≡ head_of old.exits → Goes value old.exits (gives_over link header old).exits
      of_value None told = absurd (no_head old.exits.left some told)
      of_value (Some v) told = record {
        head = sym told;
        left = ap (λ (b : Bool). (cond b (gives_home (place_of link old.exits.ends) header old.exits) old.exits).left) there;
        next = ap (λ (b : Bool). (cond b (gives_home (place_of link old.exits.ends) header old.exits) old.exits).next) there;
        groups = ap (λ (b : Bool). (cond b (gives_home (place_of link old.exits.ends) header old.exits) old.exits).groups) there;
        room = refl;
      }

  none_given : (value : Option Value) → value ≡ None → Goes value old.exits old.exits
  none_given value none = subst (λ (v : Option Value). Goes v old.exits old.exits) (sym none) (same_exits old.exits)

  exits_consumed : (link header : ℕ) (value : Option Value) (taken : Bool) → may_take link header old.exits ≡ taken
      → value ≡ cond taken (consumed link header old.exits) None → Goes value old.exits (cond taken (gives_over link header old) old).exits
  exits_consumed link header value false is told = none_given value told
  exits_consumed link header value true is told =
      exits_given link header value
      (and_parts (tests_consume (place_of link old.exits.ends) header old.exits)
      (is_there (place_of link old.exits.ends) header old.exits) is).1 told

  -- the head is kept

  exits_kept : (link header : ℕ) (keep : Bool) → SameExits old.exits (cond keep (keeps_head link header old) old).exits
  exits_kept link header true = of (reserved header old.exits)
    where
      of : (b : Bool) → SameExits old.exits (cond b (keeps (place_of link old.exits.ends) header old.exits) old.exits)
      of true = record { left = refl; next = refl; groups = refl; room = refl }
      of false = same_exits old.exits
  exits_kept link header false = same_exits old.exits

module _ (old new : BlockState) (one : is_one_taker old.kind ≡ true) where
  exits_as : (value : Option Value) (block : BlockState) → new ≡ block → Goes value old.exits block.exits → Goes value old.exits new.exits
  exits_as value block is goes = subst (λ (b : BlockState). Goes value old.exits b.exits) (sym is) goes

  exits_act : (call : BlockCall) → IsPlain (Call.acts call) → Does (Call.acts call) old new → SameExits old.exits new.exits
  exits_act (BlockCall.completed p) plain does = exits_as None (with_port p port_closes old) does (same_exits old.exits)
  exits_act (BlockCall.faulted number) plain does =
      exits_as None (faults number old) does (exits_stopped old (is_some (outcome_of old)) (Faulted number))
  exits_act (BlockCall.made (Ok true)) plain does = absurd plain
  exits_act (BlockCall.made (Ok false)) plain does = exits_as None old does.1 (same_exits old.exits)
  exits_act (BlockCall.made (Err make_fault.Ids)) plain does = exits_as None old does.1 (same_exits old.exits)
  exits_act (BlockCall.made (Err make_fault.Memory)) plain does = exits_as None old does.1 (same_exits old.exits)

  exits_give : (call : SourceCall) → Does (Call.gives call) old new → Goes (given_value (Call.gives call)) old.exits new.exits
  exits_give (SourceCall.offered offer) does =
      exits_as None (offered_by true (offer_next old) old) (does.1 ∙ ap (λ (b : Bool). offered_by b (offer_next old) old) one)
      (exits_offered old (offer_next old))
  exits_give (SourceCall.noted link header how) does =
      exits_as None (answered_by true link header how old) (does ∙ ap (λ (b : Bool). answered_by b link header how old) one)
      (record { left = refl; next = refl; groups = refl; room = refl })
  exits_give (SourceCall.consumed link header value) does =
      exits_as value (given_by true link header old) (does.1 ∙ ap (λ (b : Bool). given_by b link header old) one)
      (exits_consumed old link header value (may_take link header old.exits) refl
      (does.0 ∙ ap (λ (b : Bool). taken_by b link header old) one))
  exits_give (SourceCall.reserved link header kept) does =
      exits_as None (reserved_by true link header old) (does.1 ∙ ap (λ (b : Bool). reserved_by b link header old) one)
      (exits_kept old link header (may_keep link header old.exits))
  exits_give (SourceCall.released link header) does =
      exits_as None (released_by true link header old) (does ∙ ap (λ (b : Bool). released_by b link header old) one)
      (record { left = refl; next = refl; groups = refl; room = refl })

  exits_take : (call : TargetCall) → IsPlain (Call.takes call) → Does (Call.takes call) old new → SameExits old.exits new.exits
  exits_take (TargetCall.offered link header may_postpone how) plain does =
      exits_as None (with_port_of link (answered link header how) old) does.1 (same_exits old.exits)
  exits_take (TargetCall.handed link header value) plain does = absurd plain
  exits_take (TargetCall.wished told) plain does =
      exits_as None (wishes (wishing_port old.ports) old) does.1 (exits_wished old (wishing_port old.ports))
  exits_take (TargetCall.noted link told) plain does = exits_as None (with_port_of link (notes told link) old) does (same_exits old.exits)

  pub exits_go : (call : Call) → IsPlain call → Does call old new → Goes (given_value call) old.exits new.exits
  exits_go (Call.acts call) plain does = exits_act call plain does
  exits_go (Call.gives call) plain does = exits_give call does
  exits_go (Call.takes call) plain does = exits_take call plain does
  exits_go Call.asked plain does = exits_as None (settles old) does (settled (may_finish old))
    where
      settled : (finished : Bool) → SameExits old.exits (cond finished (stops_by Done old) old).exits
      settled true = exits_stopped old false Done
      settled false = exits_stopped old true Done
