-- The calls by which no message comes and nothing is made: what waits stays, and each port stays in order.
use Rattle.std.proofs.Common.{is_none, ◌&&◌, ◌≡◌, ℕ, zero, suc, ◌+◌, ◌-◌, ◌<◌, ◌≤◌, ◌==◌, Bool, true, false, cond, List, [], ◌∷◌, length, set, map, Option, Some, None, is_some, Ok, Err, refl, ap, sym, subst, ◌∙◌, arith, eqb-true}
use Rattle.std.proofs.lemmas.Bool.{and_parts}
use Rattle.flow_value.specs.declared.message.MessageStatus.{MessageStatus}
use Rattle.flow_link.specs.declared.stage.Refusal.TheVariants.{PortEnded}
use Rattle.flow_link.specs.declared.stage.TargetStage.{TargetStage}
use Rattle.flow_link.specs.declared.stage.TargetStage.TheVariants as target
use Rattle.flow_link.specs.declared.trace.Outcome.TheVariants.{Done, Faulted}
use Rattle.flow_link.specs.declared.traits.WishAnswer.{WishAnswer}
use Rattle.flow_link.specs.declared.traits.MakeFault.TheVariants as make_fault
use Rattle.flow_link.specs.BlockCalls.{BlockCall}
use Rattle.flow_link.specs.SourceCalls.{SourceCall}
use Rattle.flow_link.specs.TargetCalls.{TargetCall, MayNote}
use Rattle.flow_intake.specs.Port.{PortState, fresh_port, coming}
use Rattle.flow_intake.specs.PortLaw.{PortLaw, has_ended}
use Rattle.flow_intake.specs.Calls.{answer_to, next_place, gives_room, port_closes}
use Rattle.flow_intake.specs.ByLink.{answered, consumes_next}
use Rattle.flow_intake.proofs.CallsKeepOrder.{moves_keep}
use Rattle.flow_outlet.specs.Outlet.{is_empty, is_at_rest, OutletState}
use Rattle.flow_outlet.specs.ByLink.{place_of as out_place, is_there as is_head_there, consumes, consumed, gives_home, reserves, releases}
use Rattle.flow_outlet.proofs.OutletFits.{weight_stays}
use Rattle.flow_spread.specs.Spread.{SpreadState, prepares, offers, looks, holds}
use Rattle.flow_link.specs.declared.phase.Phase.TheVariants.{Asked}
use Rattle.flow_spread.specs.ByLink.{place_of as copy_place, answered as copy_answered, gives_home as copy_home, reserves as reserves_copy, releases as releases_copy, reserved as is_element, reserves as reserves_copy, releases as releases_copy}
use Rattle.flow_block.specs.Block.{BlockState, port_in, port_at, with_port, stops_by, with_copies}
use Rattle.flow_block.specs.BlockFits.{GaveOut, AllGaveOut, weight_out}
use Rattle.flow_block.specs.Copies.{copies_weight}
use Rattle.flow_block.specs.Traits.{settles, outcome_of, faults, port_into, target_over, with_port_of, wishing_port, wishes, notes, shares, offer_next, offered_by, answered_by, may_take, may_take_copy, gives_over, copies_home, given_by, may_keep, keeps_head, may_keep_copy, keeps_copy, reserved_by, released_by}
use Rattle.flow_block.proofs.PortsChange.{each_after_one, each_after_all}
use Rattle.flow_block.proofs.RoomBack.{back_at, length_back, kept_back, each_after_back, back_fits}
use Rattle.flow_block.proofs.TargetMoves.{some_port, shown_is}
use Rattle.flow_block.proofs.TargetStands.{not_noted}
use Rattle.flow_link.proofs.TestsTell.{every_tells}
use Rattle.flow_block.specs.Peeks.{may_finish, could_stop, nothing_comes, is_complete, holds_nothing, is_copied_out}
use Rattle.flow_link.specs.declared.trace.Outcome.{Outcome}
use Rattle.flow_kinds.proofs.PortRests.{rest_of, answered_rest, consumed_rest, noted_rest}
use Rattle.flow_history.specs.Calls.{MayCallInOrder, Call, Does, Fits}
use Rattle.flow_history.specs.Kept.{any_link}
use Rattle.flow_history.proofs.PortCalls.{answer_keeps, wish_keeps, note_keeps, room_keeps}
use Rattle.flow_history.proofs.Still.{Still, SamePort, still_at_one, still_at_all, still_same}

-- each port is in order, where it took so many messages
abbrev pub Ordered : (ℕ → ℕ) → List PortState → Type 0
Ordered took ports = (p : ℕ) → p < length ports → PortLaw any_link (took p) (port_in ports p)

pub one_ordered : (took : ℕ → ℕ) (ports : List PortState) (p : ℕ) (port : PortState) → Ordered took ports
    → (p < length ports → PortLaw any_link (took p) (port_in ports p) → PortLaw any_link (took p) port)
    → Ordered took (set ports p port)
one_ordered took ports p port law one =
    each_after_one (λ q r. PortLaw any_link (took q) r) ports p port (λ there. one there (law p there)) (λ q there apart. law q there)

pub all_ordered : (took : ℕ → ℕ) (ports : List PortState) (change : PortState → PortState) → Ordered took ports
    → ((p : ℕ) → p < length ports → PortLaw any_link (took p) (port_in ports p) → PortLaw any_link (took p) (change (port_in ports p)))
    → Ordered took (map change ports)
all_ordered took ports change law each =
    each_after_all (λ q r. PortLaw any_link (took q) r) change ports (λ q there. each q there (law q there))

-- what one of the ports gave out
pub out_at : (weight : ℕ) (ports : List PortState) (p : ℕ) → p < length ports → AllGaveOut weight ports → GaveOut weight (port_in ports p)
out_at weight [] p there all = absurd (omega (arith, there))
out_at weight (port ∷ ports) zero there all = all.0
out_at weight (port ∷ ports) (suc p) there all = out_at weight ports p (omega (arith, there)) all.1

-- what a block keeps by a call, apart from what it gave
pub record Leaves (took : ℕ → ℕ) (old new : BlockState) : Type 0 where
  pub still : Still old new
  pub jobs : new.jobs ≡ old.jobs
  pub recorded : new.recorded ≡ old.recorded
  pub fault : new.fault ≡ old.fault
  pub ordered : Ordered took new.ports

module _ (took : ℕ → ℕ) (old : BlockState) (law : Ordered took old.ports) where
  abbrev Goes : BlockState → Type 0
  Goes new = Leaves took old new

  pub nothing_leaves : Goes old
  nothing_leaves = record { still = still_same old; jobs = refl; recorded = refl; fault = refl; ordered = law }

  -- A port completes, the block faults

  closed : (port : PortState) → SamePort port (port_closes port)
  closed port = record { waiting = refl; ended = λ e. refl; capacity = refl }

  pub complete_leaves : (p : ℕ) → coming (port_at p old) ≡ 0 → Goes (with_port p port_closes old)
  complete_leaves p none = record {
    still = still_at_one old p (port_closes (port_at p old)) (closed (port_at p old));
    jobs = refl;
    recorded = refl;
    fault = refl;
    ordered = one_ordered took old.ports p (port_closes (port_at p old)) law
        (λ there before. moves_keep.close_port any_link (took p) (port_at p old) before none);
  }

  stopped : (how : Outcome) → ((p : ℕ) → p < length old.ports → coming (port_at p old) ≡ 0) → Goes (stops_by how old)
  stopped how none =
      let still = still_at_all old port_closes closed in
      record {
        still = record {
          kind = refl;
          size = refl;
          count = still.count;
          held = still.held;
          ended = still.ended;
          capacity = still.capacity;
          element = refl;
          once = refl;
        };
        jobs = refl;
        recorded = refl;
        fault = refl;
        ordered = all_ordered took old.ports port_closes law
            (λ p there before. moves_keep.close_port any_link (took p) (port_at p old) before (none p there));
      }

  none_at : nothing_comes old.ports ≡ true → (p : ℕ) → p < length old.ports → coming (port_at p old) ≡ 0
  none_at none p there =
      eqb-true (coming (port_at p old)) 0
      (every_tells (λ (port : PortState). coming port == 0) old.ports (fresh_port None) p none there)

  pub fault_leaves : (number : ℕ) → nothing_comes old.ports ≡ true → Goes (faults number old)
  fault_leaves number none = fault_where (is_some (outcome_of old))
    where
      fault_where : (ended : Bool) → Goes (cond ended old (stops_by (Faulted number) old))
      fault_where true = nothing_leaves
      fault_where false = stopped (Faulted number) (none_at none)

  -- a block that may finish stops when it is asked; nothing comes there
  pub settle_leaves : Goes (settles old)
  settle_leaves = settle_where (may_finish old) refl
    where
      none_comes : may_finish old ≡ true → (p : ℕ) → p < length old.ports → coming (port_at p old) ≡ 0
      none_comes may p there =
          let a = could_stop old && is_complete old && holds_nothing old.ports && is_empty old.exits.left && is_at_rest old.exits in
          let b = could_stop old && is_complete old && holds_nothing old.ports && is_empty old.exits.left in
          let c = could_stop old && is_complete old && holds_nothing old.ports in
          let d = could_stop old && is_complete old in
          let e1 = (and_parts a (is_copied_out old.copies) may).0 in
          let e2 = (and_parts b (is_at_rest old.exits) e1).0 in
          let e3 = (and_parts c (is_empty old.exits.left) e2).0 in
          let e4 = (and_parts d (holds_nothing old.ports) e3).0 in
          let e5 = (and_parts (could_stop old) (is_complete old) e4).0 in
          let e6 = (and_parts (is_none old.stopped) (nothing_comes old.ports) e5).1 in
          none_at e6 p there

      settle_where : (finished : Bool) → may_finish old ≡ finished → Goes (cond finished (stops_by Done old) old)
      settle_where true is = stopped Done (none_comes is)
      settle_where false is = nothing_leaves

  -- An offer is answered

  -- where its ends and their queue alone change
  rest_same : (port new : PortState) → rest_of new ≡ rest_of port → SamePort port new
  rest_same port new same = record {
    waiting = ap (λ (r : PortState). r.waiting) same;
    ended = λ was. ap (λ (r : PortState). has_ended r.refusing) same ∙ was;
    capacity = ap (λ (r : PortState). r.capacity) same;
  }

  pub offer_leaves : (link header : ℕ) (may_postpone : Bool) (how : MessageStatus) → target_over old.ports link ≡ target.Free
      → how ≡ answer_to may_postpone (port_at (port_into link old.ports) old)
      → Goes (with_port_of link (answered link header how) old)
  offer_leaves link header may_postpone how free told =
      let p = port_into link old.ports in
      let port = port_at p old in
      let some = some_port old.ports link (λ never. let e : target.Free ≡ target.Refused PortEnded = sym free ∙ never in cc) in
      record {
        still = still_at_one old p (answered link header how port) (rest_same port (answered link header how port) (answered_rest link header how port));
        jobs = refl;
        recorded = refl;
        fault = refl;
        ordered = one_ordered took old.ports p (answered link header how port) law
            (λ there before.
            subst (λ (h : MessageStatus). PortLaw any_link (took p) (answered link header h port)) (sym told)
            (answer_keeps (took p) link header may_postpone port (sym (shown_is old.ports link some) ∙ free) before));
      }

  -- A wish is made, and answered

  pub wish_leaves : (place : Option ℕ) → Goes (wishes place old)
  wish_leaves None = nothing_leaves
  wish_leaves (Some p) = record {
    still = still_at_one old p (consumes_next (port_at p old)) (rest_same (port_at p old) (consumes_next (port_at p old)) (consumed_rest (port_at p old) (next_place (port_at p old))));
    jobs = refl;
    recorded = refl;
    fault = refl;
    ordered = one_ordered took old.ports p (consumes_next (port_at p old)) law (λ there before. wish_keeps (took p) (port_at p old) before);
  }

  pub note_leaves : (link : ℕ) (told : WishAnswer) → MayNote told (target_over old.ports link)
      → Goes (with_port_of link (notes told link) old)
  note_leaves link told may =
      let p = port_into link old.ports in
      let port = port_at p old in
      let some = some_port old.ports link (λ never. not_noted told (Some PortEnded) (subst (λ (s : TargetStage). MayNote told s) never may)) in
      record {
        still = still_at_one old p (notes told link port) (rest_same port (notes told link port) (noted_rest told link port));
        jobs = refl;
        recorded = refl;
        fault = refl;
        ordered = one_ordered took old.ports p (notes told link port) law
            (λ there before. note_keeps (took p) link told port (subst (λ (s : TargetStage). MayNote told s) (shown_is old.ports link some) may) before);
      }

  -- Where it gives

  -- room that its ports gave out may come back
  module _ (fits : Fits old) where
    counted : (capacity : Option ℕ) (room weight waiting load : ℕ) → room ≤ weight → cond (is_some capacity) (waiting + weight) 0 ≤ load
        → cond (is_some capacity) room 0 ≤ load - waiting
    counted None room weight waiting load less out = omega arith
    counted (Some limit) room weight waiting load less out = omega (arith, less, out)

    room_at_port : (room p : ℕ) → room ≤ weight_out old.exits (copies_weight old.copies) → p < length old.ports
        → cond (is_some (port_at p old).capacity) room 0 ≤ (port_at p old).load - length (port_at p old).waiting
    room_at_port room p less there =
        counted (port_at p old).capacity room (weight_out old.exits (copies_weight old.copies)) (length (port_at p old).waiting)
        (port_at p old).load less (out_at (weight_out old.exits (copies_weight old.copies)) old.ports p there fits.room)

    room_same : (room : ℕ) (port : PortState) → SamePort port (gives_room room port)
    room_same room port = record { waiting = refl; ended = λ e. e; capacity = refl }

    -- where it copies
    copies_leave : (copies : SpreadState) → copies.element ≡ old.copies.element → copies.once ≡ old.copies.once
        → Goes (with_copies copies old)
    copies_leave copies element once =
        let room = copies_weight old.copies - copies_weight copies in
        let still = still_at_all old (gives_room room) (room_same room) in
        record {
          still = record {
            kind = refl;
            size = refl;
            count = still.count;
            held = still.held;
            ended = still.ended;
            capacity = still.capacity;
            element = element;
            once = once;
          };
          jobs = refl;
          recorded = refl;
          fault = refl;
          ordered = all_ordered took old.ports (gives_room room) law
              (λ p there before. room_keeps (took p) room (port_at p old) (room_at_port room p (omega arith) there) before);
        }

    pub offers_leave : (one : Bool) (place : Option ℕ) → Goes (offered_by one place old)
    offers_leave true place = record {
      still = record { kind = refl; size = refl; count = refl; held = λ p. refl; ended = λ p e. e; capacity = λ p. refl; element = refl; once = refl };
      jobs = refl;
      recorded = refl;
      fault = refl;
      ordered = law;
    }
    offers_leave false None = nothing_leaves
    offers_leave false (Some k) = copies_leave (offers k (prepares k old.copies)) refl refl

    pub answers_leave : (one : Bool) (link header : ℕ) (how : MessageStatus) → Goes (answered_by one link header how old)
    answers_leave true link header how = record {
      still = record { kind = refl; size = refl; count = refl; held = λ p. refl; ended = λ p e. e; capacity = λ p. refl; element = refl; once = refl };
      jobs = refl;
      recorded = refl;
      fault = refl;
      ordered = law;
    }
    answers_leave false link header how =
        copies_leave (copy_answered how header (copy_place link old.copies.ends) old.copies) refl refl

    -- the head is given, and room comes back to the ports
    abbrev exits_after : ℕ → ℕ → OutletState
    exits_after link header = consumes link header old.exits

    room_given : (link header : ℕ) (there : Bool) → is_head_there (out_place link old.exits.ends) header old.exits ≡ there
        → (cond there (gives_home (out_place link old.exits.ends) header old.exits) old.exits).room ≤ weight_out old.exits 0
    room_given link header true is =
        let parts = weight_stays old.exits.next old.exits.groups in
        omega (arith, parts)
    room_given link header false is = omega arith

    head_leaves : (link header : ℕ) → Goes (gives_over link header old)
    head_leaves link header =
        let exits = exits_after link header in
        let head = consumed link header old.exits in
        record {
          still = record {
            kind = refl;
            size = refl;
            count = length_back exits old.copies old.kind head old.ports;
            held = λ p. kept_back exits old.copies old.kind head (λ (r : PortState). r.waiting) old.ports p (λ back port. refl);
            ended = λ p e. ap has_ended (kept_back exits old.copies old.kind head (λ (r : PortState). r.refusing) old.ports p (λ back port. refl)) ∙ e;
            capacity = λ p. kept_back exits old.copies old.kind head (λ (r : PortState). r.capacity) old.ports p (λ back port. refl);
            element = refl;
            once = refl;
          };
          jobs = refl;
          recorded = refl;
          fault = refl;
          ordered = each_after_back exits old.copies old.kind head (λ q r. PortLaw any_link (took q) r) old.ports
              (λ q there.
              room_keeps (took q) (back_at exits old.copies old.kind head q (port_at q old)) (port_at q old)
              (back_fits exits old.copies old.kind head (port_at q old).capacity q (port_at q old)
              (room_at_port exits.room q (let given = room_given link header (is_head_there (out_place link old.exits.ends) header old.exits) refl in omega (arith, given)) there))
              (law q there));
        }

    copy_leaves : (link header : ℕ) → Goes (copies_home link header old)
    copy_leaves link header = copies_leave (copy_home (copy_place link old.copies.ends) header old.copies) refl refl

    gifts_where : (taken : Bool) (given : BlockState) → Goes given → Goes (cond taken given old)
    gifts_where true given leaves = leaves
    gifts_where false given leaves = nothing_leaves

    pub gifts_leave : (one : Bool) (link header : ℕ) → Goes (given_by one link header old)
    gifts_leave true link header = gifts_where (may_take link header old.exits) (gives_over link header old) (head_leaves link header)
    gifts_leave false link header = gifts_where (may_take_copy link header old.copies) (copies_home link header old) (copy_leaves link header)

    -- a message is kept, or given up: what waits at the ports stays
    exits_leave : (exits : OutletState) → Goes (record old { exits = exits })
    exits_leave exits = record {
      still = record { kind = refl; size = refl; count = refl; held = λ p. refl; ended = λ p e. e; capacity = λ p. refl; element = refl; once = refl };
      jobs = refl;
      recorded = refl;
      fault = refl;
      ordered = law;
    }

    same_element : (copies kept : SpreadState) (keep : Bool) → kept.element ≡ copies.element → (cond keep kept copies).element ≡ copies.element
    same_element copies kept true same = same
    same_element copies kept false same = refl

    same_once : (copies kept : SpreadState) (keep : Bool) → kept.once ≡ copies.once → (cond keep kept copies).once ≡ copies.once
    same_once copies kept true same = same
    same_once copies kept false same = refl

    keep_leaves : (link header : ℕ) → Goes (keeps_copy link header old)
    keep_leaves link header =
        let k = copy_place link old.copies.ends in
        let kept = holds k (looks k (Asked header) old.copies) in
        let keep = is_element header old.copies in
        copies_leave (reserves_copy link header old.copies) (same_element old.copies kept keep refl) (same_once old.copies kept keep refl)

    pub reserves_leave : (one : Bool) (link header : ℕ) → Goes (reserved_by one link header old)
    reserves_leave true link header =
        gifts_where (may_keep link header old.exits) (keeps_head link header old) (exits_leave (reserves link header old.exits))
    reserves_leave false link header =
        gifts_where (may_keep_copy link header old.copies) (keeps_copy link header old) (keep_leaves link header)

    pub releases_leave : (one : Bool) (link header : ℕ) → Goes (released_by one link header old)
    releases_leave true link header = exits_leave (releases link header old.exits)
    releases_leave false link header = copies_leave (releases_copy link header old.copies) refl refl

-- By each call

-- no message comes by it, and nothing is made
abbrev pub IsPlain : Call → Type 0
IsPlain (Call.acts (BlockCall.made (Ok true))) = ⊥
IsPlain (Call.takes (TargetCall.handed link header value)) = ⊥
IsPlain call = Unit {0}

module _ (took : ℕ → ℕ) (old new : BlockState) (law : Ordered took old.ports) (fits : Fits old) where
  left_as : (block : BlockState) → new ≡ block → Leaves took old block → Leaves took old new
  left_as block is leaves = subst (λ (b : BlockState). Leaves took old b) (sym is) leaves

  acts_leave : (call : BlockCall) → IsPlain (Call.acts call) → MayCallInOrder (Call.acts call) old → Does (Call.acts call) old new
      → Leaves took old new
  acts_leave (BlockCall.completed p) plain may does = left_as (with_port p port_closes old) does (complete_leaves took old law p may.1)
  acts_leave (BlockCall.faulted number) plain may does = left_as (faults number old) does (fault_leaves took old law number may.1)
  acts_leave (BlockCall.made (Ok true)) plain may does = absurd plain
  acts_leave (BlockCall.made (Ok false)) plain may does = left_as old does.1 (nothing_leaves took old law)
  acts_leave (BlockCall.made (Err make_fault.Ids)) plain may does = left_as old does.1 (nothing_leaves took old law)
  acts_leave (BlockCall.made (Err make_fault.Memory)) plain may does = left_as old does.1 (nothing_leaves took old law)

  gives_leave : (call : SourceCall) → Does (Call.gives call) old new → Leaves took old new
  gives_leave (SourceCall.offered offer) does =
      left_as (offered_by (shares old) (offer_next old) old) does.1 (offers_leave took old law fits (shares old) (offer_next old))
  gives_leave (SourceCall.noted link header how) does =
      left_as (answered_by (shares old) link header how old) does (answers_leave took old law fits (shares old) link header how)
  gives_leave (SourceCall.consumed link header value) does =
      left_as (given_by (shares old) link header old) does.1 (gifts_leave took old law fits (shares old) link header)
  gives_leave (SourceCall.reserved link header kept) does =
      left_as (reserved_by (shares old) link header old) does.1 (reserves_leave took old law fits (shares old) link header)
  gives_leave (SourceCall.released link header) does =
      left_as (released_by (shares old) link header old) does (releases_leave took old law fits (shares old) link header)

  takes_leave : (call : TargetCall) → IsPlain (Call.takes call) → MayCallInOrder (Call.takes call) old → Does (Call.takes call) old new
      → Leaves took old new
  takes_leave (TargetCall.offered link header may_postpone how) plain may does =
      left_as (with_port_of link (answered link header how) old) does.1 (offer_leaves took old law link header may_postpone how may.0 does.0)
  takes_leave (TargetCall.handed link header value) plain may does = absurd plain
  takes_leave (TargetCall.wished told) plain may does =
      left_as (wishes (wishing_port old.ports) old) does.1 (wish_leaves took old law (wishing_port old.ports))
  takes_leave (TargetCall.noted link told) plain may does =
      left_as (with_port_of link (notes told link) old) does (note_leaves took old law link told may.0)

  pub call_leaves : (call : Call) → IsPlain call → MayCallInOrder call old → Does call old new → Leaves took old new
  call_leaves (Call.acts call) plain may does = acts_leave call plain may does
  call_leaves (Call.gives call) plain may does = gives_leave call does
  call_leaves (Call.takes call) plain may does = takes_leave call plain may does
  call_leaves Call.asked plain may does = left_as (settles old) does (settle_leaves took old law)
