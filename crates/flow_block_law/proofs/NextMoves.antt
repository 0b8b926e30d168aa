-- What a node would do next at an end of a link is a call that it may make.
use Rattle.std.proofs.Common.{◌≡◌, ℕ, zero, suc, ◌+◌, ◌<◌, ◌≤◌, ◌==◌, ◌&&◌, ◌||◌, not, cond, Bool, true, false, List, [], ◌∷◌, length, Option, Some, None, is_some, is_none, Result, refl, ap, sym, subst, ◌∙◌, arith, eqb-true, eq-eqb, lt-ltb}
use Rattle.std.proofs.lemmas.Bool.{and_parts, false_from_ne_true, not-true}
use Rattle.flow_value.specs.declared.value.Value.{Value}
use Rattle.flow_value.specs.declared.message.MessageStatus.{MessageStatus}
use Rattle.flow_value.specs.declared.message.MessageStatus.TheVariants as status
use Rattle.flow_link.specs.declared.draft.BlockDef.{BlockDef}
use Rattle.flow_link.specs.declared.phase.LinkEnd.{LinkEnd}
use Rattle.flow_link.specs.declared.phase.LinkEnd.TheVariants as link_end
use Rattle.flow_link.specs.declared.phase.Move.{Move}
use Rattle.flow_link.specs.declared.phase.Move.TheVariants as move
use Rattle.flow_link.specs.declared.stage.Refusal.{Refusal}
use Rattle.flow_link.specs.declared.stage.SourceStage.{SourceStage}
use Rattle.flow_link.specs.declared.stage.SourceStage.TheVariants.{Free, Waiting, Accepted, Wished, AskedBy, Claimed}
use Rattle.flow_link.specs.declared.stage.TargetStage.{TargetStage}
use Rattle.flow_link.specs.declared.stage.TargetStage.TheVariants as target
use Rattle.flow_link.specs.declared.trace.Outcome.{Outcome}
use Rattle.flow_link.specs.Facts.{facts_in}
use Rattle.flow_link.specs.Layout.{Layout}
use Rattle.flow_link.specs.Lists.{is_empty}
use Rattle.flow_link.specs.Plan.{block_in, link_in as plan_link, links_into, takes_at_once, is_write_once, is_reserving, is_steady, is_sole}
use Rattle.flow_link.specs.PlanFaults.{options_fit, keys_fit, ranges_fit, is_in, is_name}
use Rattle.flow_link.specs.Trace.{took_at}
use Rattle.flow_link.specs.WellFormed.{IsWellFormed}
use Rattle.flow_link.specs.declared.plan.LinkTarget.TheVariants.{Port}
use Rattle.flow_link.proofs.ListTests.{not_both}
use Rattle.flow_intake.specs.Port.{PortState, stage_at as port_stage, link_in, coming, has_room, is_below, is_offer, is_queued, is_coming, is_hand}
use Rattle.flow_intake.specs.Calls.{first_of, in_move, next_where, answer_where, answer_to, move_of, move_at, is_at, next_place, is_offered, is_posted, is_postponed, is_arrived, may_be_refused}
use Rattle.flow_intake.specs.PortLaw.{PortLaw, AreBelow, puts_off, is_in as is_in_queue}
use Rattle.flow_intake.proofs.AnswersTell.{accepted_has_room, accepted_is_open, declining_is_refusing, next_tells}
use Rattle.flow_outlet.specs.End.{is_free, is_waiting, is_cut, speaks_of}
use Rattle.flow_outlet.specs.Outlet.{OutletState, end_at, stage_at, end_of, end_by, may_offer, is_at as is_place_at, has_offer_out, answers_wish, free_move, move_at as out_move_at, only_waits}
use Rattle.flow_outlet.proofs.MovesAllowed.{moves_are_allowed}
use Rattle.flow_outlet.proofs.OffersInOrder.{offers_in_order}
use Rattle.flow_link.specs.declared.draft.BlockKind.{BlockKind}
use Rattle.flow_link.specs.declared.draft.BlockKind.TheVariants.{WriteOnce}
use Rattle.flow_block.specs.Planned.{room_by, room_of}
use Rattle.flow_block.specs.Block.{BlockState, port_at}
use Rattle.flow_block_law.specs.NextMoves.{NextMovesMay, MayMoveIn, MayMoveOut, next_out}
use Rattle.flow_block.specs.Node.{NodeState, or_else, next_in}
use Rattle.flow_group.specs.Round.{round_move}
use Rattle.flow_block_law.proofs.WishesTell.{is_wish, wishes_only}
use Rattle.flow_block_law.specs.NodeKeeps.{InAt, IsOpen, MayPostpone}
use Rattle.flow_block_law.specs.NodeLaw.{NodeLaw}
use Rattle.flow_block.specs.Peeks.{is_held_up, could_stop, fault_cause, fault_at_ports, is_worked_off, is_pending}
use Rattle.flow_block_law.proofs.CopiesIdle.{copies_at}
use Rattle.flow_block_law.proofs.CopiesGoOn.{next_copies_may}
use Rattle.flow_block_law.proofs.EndsTell.{none_come}
use Rattle.flow_block_law.proofs.FaultsSeen.{cause_pending}
use Rattle.flow_block_law.proofs.PlacesOfLinks.{end_in_is, count_in, few_enter}
use Rattle.flow_link.proofs.TestsTell.{none_is}

one_at_least : (n : ℕ) → (n ≡ 0 → ⊥) → 1 ≤ n
one_at_least zero never = absurd (never refl)
one_at_least (suc n) never = omega arith

-- someone waits in a queue that is not empty
record Waits (port : PortState) : Type 0 where
  place : ℕ
  there : place < length port.ends
  queued : is_queued (port_stage place port) ≡ true
  put_off : puts_off (port_stage place port) ≡ true

queued_puts_off : (stage : TargetStage) → is_queued stage ≡ true → puts_off stage ≡ true
queued_puts_off (target.Postponed _) e = refl
queued_puts_off (target.Asking _) e = refl
queued_puts_off (target.Holding _) e = refl
queued_puts_off _ e = absurd (cc)

same_place : (place : ℕ) (rest : List ℕ) → is_in_queue place (place ∷ rest) ≡ true
same_place place rest = ap (λ (b : Bool). b || is_in_queue place rest) (eq-eqb place place refl)

module _ {W : Type 0} (layout : Layout W) (taken : ℕ) (port : PortState) (law : PortLaw (facts_in layout) taken port)
  where
    waits_in : (queue : List ℕ) → port.queue ≡ queue → is_empty queue ≡ false → Waits port
    waits_in [] is some = absurd (cc)
    waits_in (place ∷ rest) is some =
        let known : AreBelow (length port.ends) (place ∷ rest) = subst (AreBelow (length port.ends)) is law.known in
        let inside : is_in_queue place port.queue ≡ true = ap (is_in_queue place) is ∙ same_place place rest in
        let queued = sym (law.each place known.0).queued ∙ inside in
        record {
          place = place;
          there = known.0;
          queued = queued;
          put_off =
              queued_puts_off (port_stage place port) queued;
        }

    someone_waits : is_empty port.queue ≡ false → Waits port
    someone_waits some = waits_in port.queue refl some

-- an offer is put off only where there is no room or somebody waits
put_off_where : (refusing : Option Refusal) (reserves free : Bool) → reserves ≡ false
    → answer_where refusing reserves free status.Postponed ≡ status.Postponed → free ≡ false
put_off_where (Some why) reserves free never is = absurd (cc)
put_off_where None true free never is = absurd (cc)
put_off_where None false true never is = absurd (cc)
put_off_where None false false never is = refl

no_room_alone : (room alone : Bool) → room && alone ≡ false → (alone ≡ false → ⊥) → room ≡ false
no_room_alone true true e nobody = e
no_room_alone true false e nobody = absurd (nobody refl)
no_room_alone false alone e nobody = refl

room_at_first : (load count : ℕ) (capacity : Option ℕ) → load ≡ 0 → count ≡ 0 → is_in 1 2147483647 capacity ≡ true
    → is_below (load + count) capacity ≡ true
room_at_first load count None l c fits = refl
room_at_first load count (Some zero) l c fits = absurd (cc)
room_at_first load count (Some (suc capacity)) l c fits =
    lt-ltb (load + count) (suc capacity) (omega (arith, l, c))

capacity_in_range : {W : Type 0} (block : BlockDef W) → options_fit block ≡ true
    → is_in 1 2147483647 block.capacity ≡ true
capacity_in_range block fit =
    let ranges = (and_parts (is_name block.name && keys_fit block) (ranges_fit block) fit).1 in
    let fits = is_in 1 2147483647 block.capacity in
    let three = and_parts (fits && is_in 1 16 block.lanes && is_in 1 4096 block.size) (is_in 2 3 block.ports) ranges in
    let two = and_parts (fits && is_in 1 16 block.lanes) (is_in 1 4096 block.size) three.0 in
    (and_parts fits (is_in 1 16 block.lanes) two.0).0

-- so is its room
room_by_range : (kind : BlockKind) (capacity : Option ℕ) → is_in 1 2147483647 capacity ≡ true
    → is_in 1 2147483647 (room_by kind capacity) ≡ true
room_by_range WriteOnce capacity fits = refl
room_by_range _ capacity fits = fits

room_in_range : {W : Type 0} (block : BlockDef W) → is_in 1 2147483647 block.capacity ≡ true
    → is_in 1 2147483647 (room_of block) ≡ true
room_in_range block fits = room_by_range block.kind block.capacity fits

-- what has no capacity has room without end, unless it takes one message in all
no_room_by : (kind : BlockKind) (capacity : Option ℕ) → not (is_write_once kind) ≡ true → capacity ≡ None
    → room_by kind capacity ≡ None
no_room_by WriteOnce capacity many none = absurd (cc)
no_room_by _ capacity many none = none

no_room_of : {W : Type 0} (block : BlockDef W) → not (is_write_once block.kind) ≡ true → block.capacity ≡ None
    → room_of block ≡ None
no_room_of block many none = no_room_by block.kind block.capacity many none

-- only a port that does not reserve takes a message at once, or consumes one
accepts_freely : (refusing : Option Refusal) (reserves free : Bool) (put_off : MessageStatus) → (put_off ≡ status.Accepted → ⊥)
    → answer_where refusing reserves free put_off ≡ status.Accepted → reserves ≡ false
accepts_freely (Some why) reserves free put_off never is = absurd (cc)
accepts_freely None true free put_off never is = absurd (never is)
accepts_freely None false free put_off never is = refl

consumes_freely : (refusing : Option Refusal) (reserves room : Bool) (place : Option ℕ) (other : ℕ)
    → next_where refusing reserves room place ≡ Some other → reserves ≡ false
consumes_freely (Some why) reserves room place other is = absurd (cc)
consumes_freely None true room place other is = absurd (cc)
consumes_freely None false room place other is = refl

-- what is postponed may be put off
module _ {W : Type 0} (layout : Layout W) (meaning : ℕ → Value → Result (List Value) ℕ) (b : ℕ) (node : NodeState)
    (well : IsWellFormed layout.blocks layout.links) (here : b < length layout.blocks)
    (law : NodeLaw layout meaning b node) (p k : ℕ)
    (port_there : p < length node.block.ports) (place_there : k < length (port_at p node.block).ends) where
  abbrev port : PortState
  port = port_at p node.block

  -- the stage of this end, once it is known
  in_at : (test : TargetStage → Bool) (stage : TargetStage) → port_stage k port ≡ stage → test stage ≡ true
      → InAt test p k node
  in_at test stage is so = record { port = port_there; place = place_there; stands = ap test is ∙ so }

  module _ (i : ℕ) (at : port_stage k port ≡ target.Offered i) (put_off : answer_to true port ≡ status.Postponed) where
    kept : PortLaw (facts_in layout) (length (took_at p node.journal)) port
    kept = law.ports p port_there

    no_room : port.reserves ≡ false → has_room port && is_empty port.queue ≡ false
    no_room freely = put_off_where port.refusing port.reserves (has_room port && is_empty port.queue) freely put_off

    -- what the plan says of its block
    takes_freely : not (is_reserving (block_in layout.blocks b)) ≡ true → port.reserves ≡ false
    takes_freely free = (law.shape.ports p port_there).reserves_is ∙ not-true (is_reserving (block_in layout.blocks b)) free

    leads : (j : ℕ) → j < length port.ends → (plan_link layout.links (link_in j port.ends)).target ≡ Port b p
    leads j small = (end_in_is layout meaning b node.block law.shape p j port_there small).leads

    -- all links into the block are steady, or none is
    steady_is : (j : ℕ) → j < length port.ends
        → (facts_in layout (link_in j port.ends)).steady ≡ takes_at_once (block_in layout.blocks b)
    steady_is j small = ap (is_steady layout.blocks) (leads j small)

    not_steady : (facts_in layout (link_in k port.ends)).steady ≡ true → ⊥
    not_steady steady =
        let at_once = sym (steady_is k place_there) ∙ steady in
        let planned = block_in layout.blocks b in
        let never = is_none planned.capacity && not (is_write_once planned.kind) in
        let both = and_parts never (not (is_reserving planned)) at_once in
        let free = and_parts (is_none planned.capacity) (not (is_write_once planned.kind)) both.0 in
        let unbounded = none_is planned.capacity free.0 in
        let capacity : port.capacity ≡ None = (law.shape.ports p port_there).capacity ∙ no_room_of planned free.1 unbounded in
        let room : has_room port ≡ true = ap (is_below (port.load + coming port)) capacity in
        let other = someone_waits layout (length (took_at p node.journal)) port kept
        (not_both (has_room port) (is_empty port.queue) (no_room (takes_freely both.1)) room) in
        let not_so = ((kept.each other.place other.there).put_off other.put_off).not_steady in
        let wrong : true ≡ false = sym at_once ∙ sym (steady_is other.place other.there) ∙ not_so in
        cc

    -- a sole link is the port's only one
    alone : (facts_in layout (link_in k port.ends)).sole ≡ true → (j : ℕ) → j < length port.ends
        → port_stage j port ≡ target.Offered i
    alone sole j small =
        let planned = block_in layout.blocks b in
        let one =
        eqb-true (links_into b layout.links) 1
        (and_parts (links_into b layout.links == 1) (not (is_reserving planned))
        (sym (ap (is_sole layout.blocks layout.links) (leads k place_there)) ∙ sole)).0 in
        let few = few_enter layout.links b p in
        let many = count_in layout meaning b node.block law.shape p port_there in
        let same : j ≡ k = omega (arith, one, few, many, small, place_there) in
        ap (λ (n : ℕ). port_stage n port) same ∙ at

    nobody_waits : (facts_in layout (link_in k port.ends)).sole ≡ true → is_empty port.queue ≡ false → ⊥
    nobody_waits sole some =
        let other = someone_waits layout (length (took_at p node.journal)) port kept some in
        let wrong : false ≡ true = sym (ap is_queued (alone sole other.place other.there)) ∙ other.queued in
        cc

    not_the_first : (facts_in layout (link_in k port.ends)).sole ≡ true → length (took_at p node.journal) ≡ 0 → ⊥
    not_the_first sole none =
        let load : port.load ≡ 0 = let took = kept.took in omega (arith, took, none) in
        let nothing = none_come port.ends (λ j small. ap is_coming (alone sole j small)) in
        let planned = block_in layout.blocks b in
        let range = room_in_range planned (capacity_in_range planned (well.options b here)) in
        let capacity = (law.shape.ports p port_there).capacity in
        let room = room_at_first port.load (coming port) port.capacity load nothing
        (subst (λ (c : Option ℕ). is_in 1 2147483647 c ≡ true) (sym capacity) range) in
        let freely = (and_parts (links_into b layout.links == 1) (not (is_reserving planned))
        (sym (ap (is_sole layout.blocks layout.links) (leads k place_there)) ∙ sole)).1 in
        let full = no_room_alone (has_room port) (is_empty port.queue) (no_room (takes_freely freely)) (nobody_waits sole) in
        let wrong : true ≡ false = sym room ∙ full in
        cc

    may_postpone : MayPostpone layout meaning b p k node
    may_postpone = record {
      offered = in_at is_offered (target.Offered i) at refl;
      may = record {
        not_steady = false_from_ne_true (facts_in layout (link_in k port.ends)).steady not_steady;
        not_the_first = λ sole. one_at_least (length (took_at p node.journal)) (not_the_first sole);
      };
    }

  abbrev May : Move → Type 0
  May next = MayMoveIn layout meaning b node p k next

  -- an answer
  by_offer : (i : ℕ) → port_stage k port ≡ target.Offered i → (answer : MessageStatus) (next : Move)
      → answer_to true port ≡ answer → move_of answer ≡ Some next → May next
  by_offer i at status.Accepted next is e =
      let same : move.Want ≡ next = cc in
      let may : IsOpen p node =
      record {
        room = accepted_has_room true port is;
        open_port = accepted_is_open true port is;
        freely = accepts_freely port.refusing port.reserves (has_room port && is_empty port.queue) status.Postponed (λ same. cc) is;
      } in
      subst May same (in_at is_offer (target.Offered i) at refl, may)
  by_offer i at status.Declined next is e =
      absurd (never_declined port.refusing port.reserves (has_room port && is_empty port.queue) is)
    where
      never_declined : (refusing : Option Refusal) (reserves free : Bool)
          → answer_where refusing reserves free status.Postponed ≡ status.Declined → ⊥
      never_declined (Some why) reserves free same = cc
      never_declined None true free same = cc
      never_declined None false true same = cc
      never_declined None false false same = cc
  by_offer i at status.Postponed next is e =
      let same : move.Postpone ≡ next = cc in
      subst May same (may_postpone i at is)
  by_offer i at status.NotAvailable next is e = absurd (cc)
  by_offer i at status.DecliningPermanently next is e =
      let same : move.Refuse ≡ next = cc in
      subst May same (in_at may_be_refused (target.Offered i) at refl, declining_is_refusing true port is)

  by_post : (i : ℕ) → port_stage k port ≡ target.Posted i → (answer : MessageStatus) (next : Move)
      → answer_to false port ≡ answer → move_of answer ≡ Some next → May next
  by_post i at status.Accepted next is e =
      let same : move.Want ≡ next = cc in
      let may : IsOpen p node =
      record {
        room = accepted_has_room false port is;
        open_port = accepted_is_open false port is;
        freely = accepts_freely port.refusing port.reserves (has_room port && is_empty port.queue) status.Declined (λ same. cc) is;
      } in
      subst May same (in_at is_offer (target.Posted i) at refl, may)
  by_post i at status.Declined next is e =
      let same : move.TurnDown ≡ next = cc in
      subst May same (in_at is_posted (target.Posted i) at refl)
  by_post i at status.Postponed next is e =
      absurd (never_put_off port.refusing port.reserves (has_room port && is_empty port.queue) is)
    where
      never_put_off : (refusing : Option Refusal) (reserves free : Bool)
          → answer_where refusing reserves free status.Declined ≡ status.Postponed → ⊥
      never_put_off (Some why) reserves free same = cc
      never_put_off None true free same = cc
      never_put_off None false true same = cc
      never_put_off None false false same = cc
  by_post i at status.NotAvailable next is e = absurd (cc)
  by_post i at status.DecliningPermanently next is e =
      let same : move.Refuse ≡ next = cc in
      subst May same (in_at may_be_refused (target.Posted i) at refl, declining_is_refusing false port is)

  -- an offer that waits
  by_place : (place : Option ℕ) → next_place port ≡ place → (i : ℕ) → port_stage k port ≡ target.Postponed i
      → (next : Move) → cond (is_at k place) (Some move.Consume) None ≡ Some next → May next
  by_place None is i at next e = absurd (cc)
  by_place (Some other) is i at next e = here_or_there (other == k) refl e
    where
      here_or_there : (b : Bool) → other == k ≡ b → cond b (Some move.Consume) None ≡ Some next → May next
      here_or_there true equal e =
          let tells = next_tells port other is in
          let same : move.Consume ≡ next = cc in
          let may : IsOpen p node = record {
            room = tells.room;
            open_port = tells.going;
            freely = consumes_freely port.refusing port.reserves (has_room port) (first_of port.queue) other is;
          } in
          subst May same (in_at is_postponed (target.Postponed i) at refl, may)
      here_or_there false equal e = absurd (cc)

  by_queue : (i : ℕ) → port_stage k port ≡ target.Postponed i → (refusing : Option Refusal) → port.refusing ≡ refusing
      → (next : Move)
      → elim refusing [ Some _ ↦ Some move.Refuse | None ↦ cond (is_at k (next_place port)) (Some move.Consume) None ]
      ≡ Some next → May next
  by_queue i at (Some why) is next e =
      let same : move.Refuse ≡ next = cc in
      subst May same (in_at may_be_refused (target.Postponed i) at refl, ap is_some is)
  by_queue i at None is next e = by_place (next_place port) refl i at next e

  by_stage : (stage : TargetStage) → port_stage k port ≡ stage → (next : Move) → move_at k port stage ≡ Some next
      → May next
  by_stage (target.Offered i) at next e = by_offer i at (answer_to true port) next refl e
  by_stage (target.Posted i) at next e = by_post i at (answer_to false port) next refl e
  by_stage (target.Postponed i) at next e = by_queue i at port.refusing refl next e
  by_stage (target.Arrived i) at next e =
      let same : move.Open ≡ next = cc in
      subst May same (λ value. in_at is_arrived (target.Arrived i) at refl)
  by_stage (target.Hand i) at next e =
      let same : move.Close ≡ next = cc in
      subst May same (in_at is_hand (target.Hand i) at refl)
  by_stage _ at next e = absurd (cc)

  -- a move for the round of a join that reserves
  by_wish : (next : Move) → next_in p k node ≡ Some next → is_wish (Some next) ≡ true → May next
  by_wish move.Ask is wish = record { port = port_there; place = place_there; next = is }
  by_wish move.Claim is wish = record { port = port_there; place = place_there; next = is }
  by_wish move.Release is wish = record { port = port_there; place = place_there; next = is }
  by_wish _ is wish = absurd (cc)

  by_either : (own : Option Move) → in_move k port ≡ own → (next : Move) → next_in p k node ≡ Some next
      → or_else own (round_move p k node.round node.block.ports) ≡ Some next → May next
  by_either (Some move) is next e either = by_stage (port_stage k port) refl next (is ∙ either)
  by_either None is next e either = by_wish next e (wishes_only p k node.round node.block.ports next either)

  by_end : (next : Move) → next_in p k node ≡ Some next → May next
  by_end next e = by_either (in_move k port) refl next e e

-- the source's moves
stopped_or_not : (o : OutletState) (k : ℕ) (stopped : Option Outcome) (id : ℕ)
    → free_move o k (end_of (end_at o k) stopped) ≡ Some (move.Offer id) → stopped ≡ None
stopped_or_not o k stopped id e = by_cut (is_cut (end_at o k)) stopped e
  where
    by_cut : (cut : Bool) (stopped : Option Outcome)
        → free_move o k (cond cut (Some link_end.Plain) (end_by (end_at o k).rule.passes stopped))
        ≡ Some (move.Offer id) → stopped ≡ None
    by_cut true stopped e = cc
    by_cut false (Some how) e = cc
    by_cut false None e = refl

-- an end's next move is a source's
abbrev is_own : Option Move → Bool
is_own None = true
is_own (Some (move.Offer _)) = true
is_own (Some move.Give) = true
is_own (Some move.Hold) = true
is_own (Some move.Deny) = true
is_own (Some move.Withdraw) = true
is_own (Some (move.End _)) = true
is_own _ = false

own_either : (b : Bool) (first second : Option Move) → is_own first ≡ true → is_own second ≡ true
    → is_own (cond b first second) ≡ true
own_either true first second one other = one
own_either false first second one other = other

own_answer : (so : Move) → is_own (Some so) ≡ true → (b : Bool) → is_own (Some (cond b so move.Deny)) ≡ true
own_answer so own true = own
own_answer so own false = refl

own_wish : (o : OutletState) (so : Move) (i : ℕ) → is_own (Some so) ≡ true → is_own (answers_wish so i o) ≡ true
own_wish o so i own =
    let is_there = i == o.next && not (is_some o.offer) in
    own_either (has_offer_out o) None (Some (cond is_there so move.Deny)) refl (own_answer so own is_there)

own_free : (o : OutletState) (k : ℕ) (how : Option LinkEnd) → is_own (free_move o k how) ≡ true
own_free o k (Some how) = refl
own_free o k None = own_either (is_place_at (may_offer o) k) (Some (move.Offer o.next)) None refl refl

only_own : (o : OutletState) (k : ℕ) (stopped : Option Outcome) (up : Bool) (stage : SourceStage)
    → is_own (out_move_at o k stopped up stage) ≡ true
only_own o k stopped up Free = own_free o k (end_of (end_at o k) stopped)
only_own o k stopped up (Accepted i) = refl
only_own o k stopped up (Claimed i) = refl
only_own o k stopped up (Wished i) = own_wish o move.Give i refl
only_own o k stopped up (AskedBy i) = own_wish o move.Hold i refl
only_own o k stopped up (Waiting i) = own_either (up || o.renewing || not (i == o.next)) (Some move.Withdraw) None refl refl
only_own o k stopped up _ = refl

-- a block that is held up has a fault coming
held_up_pending : (block : BlockState) → is_held_up block ≡ true → is_pending block ≡ true
held_up_pending block e =
    let parts = and_parts (could_stop block && only_waits block.exits) (is_some (fault_cause block)) e in
    cause_pending block.fault (fault_at_ports block.ports) (is_worked_off block) parts.1

module _ {W : Type 0} (layout : Layout W) (meaning : ℕ → Value
    → Result (List Value) ℕ) (b : ℕ) (node : NodeState) (law : NodeLaw layout meaning b node) (k : ℕ)
    (there : k < length node.block.exits.ends)
  where
    abbrev exits : OutletState
    exits = node.block.exits

    abbrev stops : Option Outcome
    stops = node.block.stopped

    abbrev up : Bool
    up = is_held_up node.block

    abbrev May_out : Move → Type 0
    May_out next = MayMoveOut layout meaning b node k next

    withdraws_head : (i : ℕ) → cond (up || exits.renewing || not (i == exits.next)) (Some move.Withdraw) None ≡ Some move.Withdraw
        → exits.renewing ≡ false → (i == exits.next) ≡ true → is_pending node.block ≡ true
    withdraws_head i e again head = by_test up exits.renewing (i == exits.next) e again head (held_up_pending node.block)
      where
        by_test : (is_up renewing is_head : Bool)
            → cond (is_up || renewing || not is_head) (Some move.Withdraw) None ≡ Some move.Withdraw
            → renewing ≡ false → is_head ≡ true
            → (is_up ≡ true → is_pending node.block ≡ true) → is_pending node.block ≡ true
        by_test true renewing is_head e again head so = so refl
        by_test false true is_head e again head so = absurd (cc)
        by_test false false true e again head so = absurd (cc)
        by_test false false false e again head so = absurd (cc)

    -- the head's own offer is withdrawn only where the block faults, or the head is to be offered anew
    withdraws_at : (stage : SourceStage) → is_waiting stage ≡ true
        → out_move_at exits k stops up stage ≡ Some move.Withdraw
        → exits.renewing ≡ false → speaks_of exits.next stage ≡ true → is_pending node.block ≡ true
    withdraws_at (Waiting i) waits e again head = withdraws_head i e again head
    withdraws_at _ waits e again head = absurd (cc)

    going_on : (stage : SourceStage) → is_free stage ≡ true → (id : ℕ)
        → out_move_at exits k stops up stage ≡ Some (move.Offer id) → stops ≡ None
    going_on Free free id e = stopped_or_not exits k stops id e
    going_on _ free id e = absurd (cc)

    by_source : (next : Move) → next_out k node ≡ Some next → May_out next
    by_source (move.Offer id) e =
        let allowed = moves_are_allowed.offers (is_pending node.block) stops up exits law.exits.law k there id e in
        let order = (offers_in_order.named exits k).0 allowed.0 in
        (allowed.1, record { going = going_on (stage_at exits k) order.free id e; next = allowed.0 })
    by_source move.Give e =
        record {
          place = there;
          wanted =
              moves_are_allowed.gives (is_pending node.block) stops up exits law.exits.law k there e;
        }
    by_source move.Hold e =
        record {
          place = there;
          asked =
              moves_are_allowed.holds (is_pending node.block) stops up exits law.exits.law k there e;
        }
    by_source move.Deny e =
        record {
          place = there;
          stands =
              moves_are_allowed.denies (is_pending node.block) stops up exits law.exits.law k there e;
        }
    by_source move.Withdraw e =
        let waits = moves_are_allowed.withdraws (is_pending node.block) stops up exits law.exits.law k there e in
        record { waits = record { place = there; stands = waits }; faults = withdraws_at (stage_at exits k) waits e }
    by_source (move.End how) e =
        let allowed = moves_are_allowed.ends (is_pending node.block) stops up exits law.exits.law k there how e in
        record { is_at_home = record { place = there; stands = allowed.0 }; is_due = allowed.1 }
    by_source next e = absurd (let own = only_own exits k stops up (stage_at exits k) in
        let wrong : is_own (Some next) ≡ true = ap is_own (sym e) ∙ own in cc)

pub next_moves_may : {W : Type 0} → NextMovesMay W
next_moves_may {W} layout meaning b node well here law = (
  λ p k next port_there place_there e.
      by_end layout meaning b node well here law p k port_there place_there next e,
  λ k next there e. by_source layout meaning b node law k there next e,
  λ k next there e. next_copies_may W layout b node (law.copies.copier (copies_at layout meaning b node law k there)) k next there e,
)
