-- A block stays of its kind by each call, with as many ports, and each has as much room and takes messages as before.
use Rattle.std.proofs.Common.{◌≡◌, ℕ, Bool, true, false, List, [], ◌∷◌, length, set, is_none, Option, Some, None, Result, Ok, Err, IfOk, OnErr, refl, ap, sym, subst, ◌∙◌}
use Rattle.std.proofs.lemmas.List.{length-set}
use Rattle.std.specs.declared.alloc.AllocError.{AllocError}
use Rattle.flow_value.specs.declared.value.Value.{Value}
use Rattle.flow_value.specs.declared.message.MessageStatus.{MessageStatus}
use Rattle.flow_link.specs.BlockCalls.{BlockCall}
use Rattle.flow_link.specs.SourceCalls.{SourceCall}
use Rattle.flow_link.specs.TargetCalls.{TargetCall}
use Rattle.flow_link.specs.declared.draft.BlockKind.{BlockKind}
use Rattle.flow_link.specs.declared.draft.BlockKind.TheVariants as kinds
use Rattle.flow_intake.specs.Port.{PortState}
use Rattle.flow_intake.specs.Calls.{next_place}
use Rattle.flow_intake.specs.ByLink.{place_of, answered, arrives, arrives_at, consumes_next}
use Rattle.flow_block.specs.Block.{BlockState, port_at, puts_out, copies_at_once, copies_where, keeps_results, yields_all, yields_where, ends_job, with_jobs}
use Rattle.flow_block.specs.Jobs.{Slot, brings}
use Rattle.flow_block.specs.Traits.{Acts, Gives, Takes, settles, port_into, with_port_of, wishing_port, wishes, notes}
use Rattle.flow_block.proofs.PortsChange.{kept_at_one}
use Rattle.flow_kinds.specs.Kinds.{IsOf}
use Rattle.flow_kinds.proofs.PortRests.{answered_rest, consumed_rest, noted_rest}
use Rattle.flow_kinds.proofs.BlockLasts.{Lasts, asked_lasts, acts_last, gives_last, once_lasts}

-- what a port is made with: its capacity, and whether it reserves
abbrev pub fixed_of : PortState → Option ℕ × Bool
fixed_of port = (port.capacity, port.reserves)

pub record SameShape (old new : BlockState) : Type 0 where
  pub kind : new.kind ≡ old.kind
  pub count : length new.ports ≡ length old.ports
  pub same : (p : ℕ) → fixed_of (port_at p new) ≡ fixed_of (port_at p old)

pub stays_of : (kind : BlockKind) (old new : BlockState) → SameShape old new → IsOf kind old → IsOf kind new
stays_of kind old new same is = record {
  kind_is = same.kind ∙ is.kind_is;
  alone = λ e. same.count ∙ is.alone e;
  once = λ e. ap (λ (fixed : Option ℕ × Bool). fixed.0) (same.same 0) ∙ is.once e;
  freely = λ p. ap (λ (fixed : Option ℕ × Bool). fixed.1) (same.same p) ∙ is.freely p;
}

same_shape : (block : BlockState) → SameShape block block
same_shape block = record { kind = refl; count = refl; same = λ p. refl }

both_same : (a b c : BlockState) → SameShape a b → SameShape b c → SameShape a c
both_same a b c first second = record {
  kind = second.kind ∙ first.kind;
  count = second.count ∙ first.count;
  same = λ p. second.same p ∙ first.same p;
}

as_it_is : (old block new : BlockState) → new ≡ block → SameShape old block → SameShape old new
as_it_is old block new is same = subst (λ (b : BlockState). SameShape old b) (sym is) same

-- Where ports change

at_one : (block : BlockState) (p : ℕ) (port : PortState) → fixed_of port ≡ fixed_of (port_at p block)
    → SameShape block (record block { ports = set block.ports p port })
at_one block p port same = record {
  kind = refl;
  count = length-set block.ports p port;
  same = λ q. kept_at_one fixed_of block.ports p q port same;
}

arrived_fixed : (value : Value) (port : PortState) (place : Option ℕ) → fixed_of (arrives_at place value port) ≡ fixed_of port
arrived_fixed value port None = refl
arrived_fixed value port (Some k) = refl

-- By its own calls, and as a source

-- what leaves all but what waits, room and ends
shape_of : (old new : BlockState) → Lasts old new → SameShape old new
shape_of old new lasts = record { kind = lasts.kind; count = lasts.count; same = λ p. ap fixed_of (lasts.same p) }

module _ (old : BlockState) where
  pub settles_stay : (new : BlockState) → new ≡ settles old → SameShape old new
  settles_stay new does = shape_of old new (asked_lasts old new does)

  pub acts_stay : (new : BlockState) (call : BlockCall) → Acts old call new → SameShape old new
  acts_stay new call does = shape_of old new (acts_last old new call does)

  pub gives_stay : (new : BlockState) (call : SourceCall) → Gives old call new → SameShape old new
  gives_stay new call does = shape_of old new (gives_last old new call does)

  -- As a target

  port_stays : (link : ℕ) (change : PortState → PortState) → ((port : PortState) → fixed_of (change port) ≡ fixed_of port)
      → SameShape old (with_port_of link change old)
  port_stays link change same =
      at_one old (port_into link old.ports) (change (port_at (port_into link old.ports) old)) (same (port_at (port_into link old.ports) old))

  wish_stays : (place : Option ℕ) → SameShape old (wishes place old)
  wish_stays None = same_shape old
  wish_stays (Some p) =
      at_one old p (consumes_next (port_at p old)) (ap fixed_of (consumed_rest (port_at p old) (next_place (port_at p old))))

pub takes_stay : (old new : BlockState) (call : TargetCall) → Takes old call new → SameShape old new
takes_stay old new (TargetCall.offered link header may_postpone how) does =
    as_it_is old (with_port_of link (answered link header how) old) new does.1
    (port_stays old link (answered link header how) (λ port. ap fixed_of (answered_rest link header how port)))
takes_stay old new (TargetCall.handed link header value) does =
    let arrived = with_port_of link (arrives link value) old in
    as_it_is old (copies_where (copies_at_once arrived) arrived) new does
    (both_same old arrived (copies_where (copies_at_once arrived) arrived)
    (port_stays old link (arrives link value) (λ port. arrived_fixed value port (place_of link port.ends)))
    (shape_of arrived (copies_where (copies_at_once arrived) arrived) (once_lasts arrived (copies_at_once arrived))))
takes_stay old new (TargetCall.wished told) does =
    as_it_is old (wishes (wishing_port old.ports) old) new does.1 (wish_stays old (wishing_port old.ports))
takes_stay old new (TargetCall.noted link told) does =
    as_it_is old (with_port_of link (notes told link) old) new does (port_stays old link (notes told link) (λ port. ap fixed_of (noted_rest told link port)))

-- Where memory is out, it stays as it was

pub offer_stays : (old new : BlockState) (result : Result (Option (ℕ × ℕ)) AllocError)
    → IfOk result (λ offer. Gives old (SourceCall.offered offer) new) → OnErr result (new ≡ old) → SameShape old new
offer_stays old new (Ok offer) done kept = gives_stay old new (SourceCall.offered offer) done
offer_stays old new (Err error) done kept = as_it_is old old new kept (same_shape old)

pub answer_stays : (old new : BlockState) (link header : ℕ) (may_postpone : Bool) (result : Result MessageStatus AllocError)
    → IfOk result (λ how. Takes old (TargetCall.offered link header may_postpone how) new) → OnErr result (new ≡ old) → SameShape old new
answer_stays old new link header may_postpone (Ok how) done kept =
    takes_stay old new (TargetCall.offered link header may_postpone how) done
answer_stays old new link header may_postpone (Err error) done kept = as_it_is old old new kept (same_shape old)

-- By the end of a job

out_kind : (values : List Value) (block : BlockState) → (puts_out values block).kind ≡ block.kind
out_kind [] block = refl
out_kind (value ∷ values) block = refl

kept_kind : (kind : BlockKind) (values : List Value) (block : BlockState) → (keeps_results kind values block).kind ≡ block.kind
kept_kind kinds.Action values block = refl
kept_kind kinds.Buffer values block = out_kind values block
kept_kind _ values block = out_kind values block

yielded_kind : (slots : List Slot) (block : BlockState) → (yields_all slots block).kind ≡ block.kind
yielded_kind [] block = refl
yielded_kind (None ∷ slots) block = refl
yielded_kind (Some (Ok values) ∷ slots) block =
    yielded_kind slots (keeps_results block.kind values block) ∙ kept_kind block.kind values block
yielded_kind (Some (Err number) ∷ slots) block = refl

where_yielded : (faultless : Bool) (block : BlockState) → (yields_where faultless block).kind ≡ block.kind
where_yielded true block = yielded_kind block.jobs.slots block
where_yielded false block = refl

pub ended_kind : (ticket : ℕ) (block : BlockState) (result : Result (List Value) ℕ) → (ends_job ticket result block).kind ≡ block.kind
ended_kind ticket block result = where_yielded (is_none block.fault) (with_jobs (brings ticket result) block)
