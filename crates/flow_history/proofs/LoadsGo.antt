-- What becomes of what the ports of a block count, where a call makes nothing: it stays, but for the room that comes back with what is
-- given.
use Rattle.std.proofs.Common.{◌≡◌, ℕ, ◌+◌, ◌-◌, ◌<◌, ◌≤◌, min, Bool, true, false, cond, is_some, List, length, Option, Some, None, Ok, Err, refl, ap, sym, subst, ◌∙◌, arith, ◌==◌, not, ap₂, [], set}
use Rattle.std.proofs.lemmas.Bool.{and_parts, not-true}
use Rattle.flow_value.specs.declared.value.Value.{Value}
use Rattle.flow_link.specs.BlockCalls.{BlockCall}
use Rattle.flow_link.specs.Plan.{is_one_taker}
use Rattle.flow_link.specs.SourceCalls.{SourceCall}
use Rattle.flow_link.specs.TargetCalls.{TargetCall}
use Rattle.flow_link.specs.declared.trace.Outcome.{Outcome}
use Rattle.flow_link.specs.declared.trace.Outcome.TheVariants.{Done, Faulted}
use Rattle.flow_link.specs.declared.traits.MakeFault.TheVariants as make_fault
use Rattle.flow_intake.specs.Port.{PortState}
use Rattle.flow_intake.specs.ByLink.{answered, consumes_next}
use Rattle.flow_intake.specs.Calls.{next_place, port_closes}
use Rattle.flow_outlet.specs.ByLink.{place_of as out_place, is_head, is_there as is_head_there, tests_consume, consumes, consumed, gives_home}
use Rattle.flow_outlet.specs.Outlet.{head_of, weight_at, is_empty}
use Rattle.flow_block.specs.Block.{BlockState, port_in, port_at, with_port, row_count, stops_by}
use Rattle.flow_block.specs.Traits.{settles, outcome_of, faults, offer_next, offered_by, answered_by, taken_by, given_by, may_take, gives_over, with_port_of, port_into, wishing_port, wishes, notes, may_keep, keeps_head, reserved_by, released_by}
use Rattle.flow_block.proofs.PortsChange.{kept_at_one, kept_at_all}
use Rattle.flow_block.proofs.RoomBack.{port_back}
use Rattle.flow_outlet.specs.Fits.{weight_of}
use Rattle.flow_outlet.specs.declared.group.Group.{Group}
use Rattle.flow_block.specs.Copies.{copies_weight}
use Rattle.flow_block.specs.Peeks.{may_finish}
use Rattle.flow_block.proofs.SourceStands.{there_is_head}
use Rattle.flow_kinds.proofs.PortRests.{answered_rest, consumed_rest, noted_rest}
use Rattle.flow_history.specs.Calls.{Call, Does}
use Rattle.flow_history.proofs.CallsLeave.{IsPlain}
use Rattle.flow_history.proofs.ExitsGo.{given_value, no_head}

-- At all ports

-- no more comes back than the head has messages of the port, where no room waits to come back
abbrev pub LoadsAt : Option Value → BlockState → BlockState → ℕ → Type 0
LoadsAt None old new p = (port_at p new).load ≡ (port_at p old).load
LoadsAt (Some value) old new p = (port_at p old).load ≤ (port_at p new).load + row_count old.kind (Some value) p

module _ (old : BlockState) (p : ℕ) where
  at_one : (q : ℕ) (port : PortState) → port.load ≡ (port_at q old).load → (port_in (set old.ports q port) p).load ≡ (port_at p old).load
  at_one q port same = kept_at_one (λ (r : PortState). r.load) old.ports q p port same

  stopped_loads : (ended : Bool) (how : Outcome) → (port_at p (cond ended old (stops_by how old))).load ≡ (port_at p old).load
  stopped_loads true how = refl
  stopped_loads false how = kept_at_all (λ (r : PortState). r.load) port_closes old.ports p (λ port. refl)

  wished_loads : (place : Option ℕ) → (port_at p (wishes place old)).load ≡ (port_at p old).load
  wished_loads None = refl
  wished_loads (Some q) = at_one q (consumes_next (port_at q old)) (ap (λ (r : PortState). r.load) (consumed_rest (port_at q old) (next_place (port_at q old))))

  offered_loads : (place : Option ℕ) → (port_at p (offered_by true place old)).load ≡ (port_at p old).load
  offered_loads place = refl

  kept_loads : (link header : ℕ) (keep : Bool) → (port_at p (cond keep (keeps_head link header old) old)).load ≡ (port_at p old).load
  kept_loads link header true = refl
  kept_loads link header false = refl

  -- room comes back with the head
  back_loads : (room weight count load waiting : ℕ) → room ≡ 0 → load ≤ load - (room + min count (load - waiting - room - weight)) + count
  back_loads room weight count load waiting none = omega (arith, none)

module _ (old : BlockState) (p : ℕ) (there : p < length old.ports) (no_room : old.exits.room ≡ 0) (no_groups : old.exits.groups ≡ []) where
  given_loads : (link header : ℕ) (value : Option Value) → is_head_there (out_place link old.exits.ends) header old.exits ≡ true
      → value ≡ consumed link header old.exits → LoadsAt value old (gives_over link header old) p
  given_loads link header value there_now is = of_value value is
    where
      head : is_head header old.exits ≡ true
      head = there_is_head old.exits (out_place link old.exits.ends) header there_now

      exits_are : (consumes link header old.exits).room ≡ 0
      exits_are =
          ap (λ (b : Bool). (cond b (gives_home (out_place link old.exits.ends) header old.exits) old.exits).room) there_now
          ∙ ap₂ (λ (room : ℕ) (groups : List Group). room + weight_at old.exits.next groups) no_room no_groups

      of_value : (value : Option Value) → value ≡ consumed link header old.exits → LoadsAt value old (gives_over link header old) p
      of_value None told =
          absurd (no_head old.exits.left
          (not-true (is_empty old.exits.left) (and_parts (header == old.exits.next) (not (is_empty old.exits.left)) head).1)
          (told ∙ ap (λ (b : Bool). cond b (head_of old.exits) None) there_now))
      of_value (Some v) told =
          let exits = consumes link header old.exits in
          let back = port_back exits old.copies old.kind (consumed link header old.exits) old.ports p there in
          let load = ap (λ (r : PortState). r.load) back in
          let less = back_loads old p exits.room (weight_of exits.groups + copies_weight old.copies) (row_count old.kind (consumed link header old.exits) p)
          (port_at p old).load (length (port_at p old).waiting) exits_are in
          let same : row_count old.kind (consumed link header old.exits) p ≡ row_count old.kind (Some v) p =
          ap (λ (h : Option Value). row_count old.kind h p) (sym told) in
          omega (arith, load, less, same)

  consumed_loads : (link header : ℕ) (value : Option Value) (taken : Bool) → may_take link header old.exits ≡ taken
      → value ≡ cond taken (consumed link header old.exits) None → LoadsAt value old (cond taken (gives_over link header old) old) p
  consumed_loads link header value false is told = subst (λ (v : Option Value). LoadsAt v old old p) (sym told) refl
  consumed_loads link header value true is told =
      given_loads link header value
      (and_parts (tests_consume (out_place link old.exits.ends) header old.exits)
      (is_head_there (out_place link old.exits.ends) header old.exits) is).1 told

module _ (old new : BlockState) (one : is_one_taker old.kind ≡ true) (p : ℕ) where
  loads_as : (value : Option Value) (block : BlockState) → new ≡ block → LoadsAt value old block p → LoadsAt value old new p
  loads_as value block is loads = subst (λ (b : BlockState). LoadsAt value old b p) (sym is) loads

  loads_act : (call : BlockCall) → IsPlain (Call.acts call) → Does (Call.acts call) old new → LoadsAt None old new p
  loads_act (BlockCall.completed q) plain does = loads_as None (with_port q port_closes old) does (at_one old p q (port_closes (port_at q old)) refl)
  loads_act (BlockCall.faulted number) plain does =
      loads_as None (faults number old) does (stopped_loads old p (is_some (outcome_of old)) (Faulted number))
  loads_act (BlockCall.made (Ok true)) plain does = absurd plain
  loads_act (BlockCall.made (Ok false)) plain does = loads_as None old does.1 refl
  loads_act (BlockCall.made (Err make_fault.Ids)) plain does = loads_as None old does.1 refl
  loads_act (BlockCall.made (Err make_fault.Memory)) plain does = loads_as None old does.1 refl

  loads_take : (call : TargetCall) → IsPlain (Call.takes call) → Does (Call.takes call) old new → LoadsAt None old new p
  loads_take (TargetCall.offered link header may_postpone how) plain does =
      let q = port_into link old.ports in
      loads_as None (with_port_of link (answered link header how) old) does.1
      (at_one old p q (answered link header how (port_at q old)) (ap (λ (r : PortState). r.load) (answered_rest link header how (port_at q old))))
  loads_take (TargetCall.handed link header value) plain does = absurd plain
  loads_take (TargetCall.wished told) plain does =
      loads_as None (wishes (wishing_port old.ports) old) does.1 (wished_loads old p (wishing_port old.ports))
  loads_take (TargetCall.noted link told) plain does =
      let q = port_into link old.ports in
      loads_as None (with_port_of link (notes told link) old) does
      (at_one old p q (notes told link (port_at q old)) (ap (λ (r : PortState). r.load) (noted_rest told link (port_at q old))))

  module _ (there : p < length old.ports) (no_room : old.exits.room ≡ 0) (no_groups : old.exits.groups ≡ []) where
    loads_give : (call : SourceCall) → Does (Call.gives call) old new → LoadsAt (given_value (Call.gives call)) old new p
    loads_give (SourceCall.offered offer) does =
        loads_as None (offered_by true (offer_next old) old) (does.1 ∙ ap (λ (b : Bool). offered_by b (offer_next old) old) one)
        (offered_loads old p (offer_next old))
    loads_give (SourceCall.noted link header how) does =
        loads_as None (answered_by true link header how old) (does ∙ ap (λ (b : Bool). answered_by b link header how old) one) refl
    loads_give (SourceCall.consumed link header value) does =
        loads_as value (given_by true link header old) (does.1 ∙ ap (λ (b : Bool). given_by b link header old) one)
        (consumed_loads old p there no_room no_groups link header value (may_take link header old.exits) refl
        (does.0 ∙ ap (λ (b : Bool). taken_by b link header old) one))
    loads_give (SourceCall.reserved link header kept) does =
        loads_as None (reserved_by true link header old) (does.1 ∙ ap (λ (b : Bool). reserved_by b link header old) one)
        (kept_loads old p link header (may_keep link header old.exits))
    loads_give (SourceCall.released link header) does =
        loads_as None (released_by true link header old) (does ∙ ap (λ (b : Bool). released_by b link header old) one) refl

    pub loads_go : (call : Call) → IsPlain call → Does call old new → LoadsAt (given_value call) old new p
    loads_go (Call.acts call) plain does = loads_act call plain does
    loads_go (Call.gives call) plain does = loads_give call does
    loads_go (Call.takes call) plain does = loads_take call plain does
    loads_go Call.asked plain does = loads_as None (settles old) does (settled (may_finish old))
      where
        settled : (finished : Bool) → LoadsAt None old (cond finished (stops_by Done old) old) p
        settled true = stopped_loads old p false Done
        settled false = stopped_loads old p true Done
