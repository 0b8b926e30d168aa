-- Each call keeps a block's exits in order.
use Rattle.std.proofs.Common.{◌≡◌, ℕ, ◌-◌, ◌<◌, cond, Bool, true, false, ◌||◌, List, [], ◌∷◌, length, set, map, Option, Some, None, is_some, Result, Ok, Err, refl, ap, sym, ◌∙◌, subst}
use Rattle.std.specs.Option.{ForSome}
use Rattle.flow_value.specs.declared.value.Value.{Value}
use Rattle.flow_link.specs.declared.draft.BlockKind.{BlockKind}
use Rattle.flow_link.specs.declared.draft.BlockKind.TheVariants.{Action}
use Rattle.flow_link.specs.declared.phase.LinkEnd.{LinkEnd}
use Rattle.flow_link.specs.declared.stage.SourceStage.{SourceStage}
use Rattle.flow_link.specs.declared.stage.SourceStage.TheVariants as source
use Rattle.flow_link.specs.declared.stage.TargetStage.{TargetStage}
use Rattle.flow_link.specs.declared.stage.TargetStage.TheVariants as target
use Rattle.flow_link.specs.declared.trace.Outcome.{Outcome}
use Rattle.flow_link.specs.declared.trace.Outcome.TheVariants as outcome
use Rattle.flow_link.specs.Layout.{Layout}
use Rattle.flow_link.specs.LinkOk.{HasRoom}
use Rattle.flow_link.specs.declared.kinds.BlockUnit.{BlockUnit}
use Rattle.flow_link.specs.declared.kinds.BlockUnit.TheVariants as unit
use Rattle.flow_link.specs.Kinds.{unit_of}
use Rattle.flow_link.proofs.KindsTell.{row_is, tuple_is}
use Rattle.flow_link.proofs.ListTests.{or_weaker}
use Rattle.flow_intake.specs.Port.{EndState, PortState, stage_at as port_stage, is_offer, is_hand, is_holding}
use Rattle.flow_intake.specs.Calls.{first_of, is_offered, is_posted, is_postponed, is_arrived, may_be_refused, wants, turns_down, postpones, refuses, consumes, asks, claims, releases, opens, closes, looks as port_looks, takes_next, gives_room, port_closes}
use Rattle.flow_intake.specs.Ended.{fault_seen, fault_at_ends}
use Rattle.flow_outlet.specs.End.{id_of}
use Rattle.flow_outlet.specs.Law.{OutletLaw}
use Rattle.flow_outlet.specs.Outlet.{OutletState, head_of, end_at, is_wanted, may_give, may_offer, prepares, offers, gives, lacks_ids, holds, denies, withdraws, ends_link, looks}
use Rattle.flow_outlet.proofs.LawKept.{calls_keep_law}
use Rattle.flow_spread.specs.Spread.{puts}
use Rattle.flow_block.specs.Copies.{after_copy, copies_weight}
use Rattle.flow_block.specs.Block.{BlockState, port_at, copies_next, unit_weight, made_of, keeps_results, yields, makes_of, put_by_kind, put_of, values_of_result, row_of, next_group, group_weight, takes_group, makes_row, gives_out, stops_by, held_by, makes_tuple, comes_back, is_batched_join, puts_by_unit, put_next}
use Rattle.flow_block.specs.Node.{NodeState, NodeCall, hand_at, gives_from, order_in, next_group_in, holds_in}
use Rattle.flow_block_law.specs.NodeLaw.{ExitsLaw}
use Rattle.flow_block_law.specs.NodeKeeps.{MayCall, after_call, ExitsKept}
use Rattle.flow_block.specs.Peeks.{fault_at_ports, is_pending}
use Rattle.flow_block.specs.Planned.{block_makes}
use Rattle.flow_block.proofs.CopiesTaken.{taken_in_keeps}
use Rattle.flow_block_law.proofs.FaultsSeen.{StaysSeen, stays_at_ends, stays_at_ports, seen_over_ports, seen_by_looks, unseen_where}
use Rattle.flow_block_law.proofs.GoingOn.{may_fault_tells, may_finish_tells}
use Rattle.flow_block_law.proofs.KindsBuilt.{makes_by, next_by, puts_one}
use Rattle.flow_block_law.proofs.WishesTell.{asks_so, claims_so, releases_so}
use Rattle.flow_group.specs.Tuple.{tuple_of}
use Rattle.flow_block.proofs.RoomBack.{seen_over_back}
use Rattle.flow_block_law.proofs.GroupPorts.{seen_by_group}
use Rattle.flow_block.specs.Groups.{makes_group}
use Rattle.flow_group.specs.Group.{group_of}

-- The law of the exits

law_carries : (before after : Bool) (stopped : Option Outcome) (o : OutletState) → (before ≡ true → after ≡ true)
    → OutletLaw before stopped o → OutletLaw after stopped o
law_carries true true stopped o stays law = law
law_carries true false stopped o stays law = absurd (let wrong : false ≡ true = stays refl in cc)
law_carries false true stopped o stays law = calls_keep_law.fault stopped o law
law_carries false false stopped o stays law = law

offer_keeps : (pending : Bool) (stopped : Option Outcome) (o : OutletState) (k : ℕ) → stopped ≡ None
    → may_offer o ≡ Some k
    → OutletLaw pending stopped o → OutletLaw pending stopped (offers k (prepares o))
offer_keeps pending None o k going may law =
    calls_keep_law.offer pending (prepares o) (calls_keep_law.prepare pending None o law) k may refl
offer_keeps pending (Some how) o k going may law = absurd (cc)

stop_keeps : (pending : Bool) (stopped : Option Outcome) (how : Outcome) (o : OutletState) → stopped ≡ None
    → OutletLaw pending stopped o → OutletLaw pending (Some how) o
stop_keeps pending None how o going law = calls_keep_law.stop pending how o law
stop_keeps pending (Some _) how o going law = absurd (cc)

-- what is wanted may still cross
wanted_room : (next : ℕ) (out : Bool) (stage : SourceStage) (max : Option ℕ) (given : ℕ)
    → is_wanted next out stage ≡ true
    → ForSome (id_of stage) (λ _. HasRoom max given) → HasRoom max given
wanted_room next out (source.Accepted i) max given wanted room = room i refl
wanted_room next out (source.Wished i) max given wanted room = room i refl
wanted_room next out (source.Claimed i) max given wanted room = room i refl
wanted_room next out _ max given wanted room = absurd (cc)

module _ {W : Type 0} (layout : Layout W) (meaning : ℕ → Value → Result (List Value) ℕ) (b : ℕ) where
  module _ (block : BlockState) (law : ExitsLaw layout meaning b block) where
    -- only its ports change
    ports_change : (ports : List PortState) → StaysSeen (fault_at_ports block.ports) (fault_at_ports ports)
        → ExitsLaw layout meaning b (record block { ports = ports })
    ports_change ports stays = record {
      law = law_carries (is_pending block) (is_some block.fault || is_some (fault_at_ports ports)) block.stopped
          block.exits
          (or_weaker (is_some block.fault) (is_some (fault_at_ports block.ports)) (is_some block.fault)
          (is_some (fault_at_ports ports)) (λ e. e) stays)
          law.law;
    }

    -- one end of a link into it moves
    end_moves : (p k : ℕ) (port : PortState) (end : EndState) → port.ends ≡ set (port_at p block).ends k end
        → StaysSeen (fault_seen (port_stage k (port_at p block))) (fault_seen end.stage)
        → ExitsLaw layout meaning b (record block { ports = set block.ports p port })
    end_moves p k port end is stays =
        ports_change (set block.ports p port) (stays_at_ports block.ports p port
        (λ seen. subst (λ (ends : List EndState). is_some (fault_at_ends ends) ≡ true) (sym is)
        (stays_at_ends (port_at p block).ends k end stays seen)))

    -- where such a test passes
    end_offers : (p k : ℕ) (port : PortState) (end : EndState) → port.ends ≡ set (port_at p block).ends k end
        → (test : TargetStage → Bool) → ((how : LinkEnd) → test (target.Ended how) ≡ false)
        → test (port_stage k (port_at p block)) ≡ true
        → ExitsLaw layout meaning b (record block { ports = set block.ports p port })
    end_offers p k port end is test ended_not passes =
        let unseen = unseen_where test ended_not (port_stage k (port_at p block)) passes in
        end_moves p k port end is
        (λ seen. let never : false ≡ true = ap is_some (sym unseen.fault) ∙ seen in absurd (cc))

    port_stays : (p : ℕ) (port : PortState) → port.ends ≡ (port_at p block).ends
        → ExitsLaw layout meaning b (record block { ports = set block.ports p port })
    port_stays p port same =
        ports_change (set block.ports p port) (stays_at_ports block.ports p port
        (λ seen. subst (λ (ends : List EndState). is_some (fault_at_ends ends) ≡ true) (sym same) seen))

    -- one end of a link out of it moves
    exits_change : (o : OutletState) → OutletLaw (is_pending block) block.stopped o
        → ExitsLaw layout meaning b (record block { exits = o })
    exits_change o new = record { law = new }

    results_keep : (kind : BlockKind) (values : List Value) → lacks_ids (put_by_kind kind values) block.exits ≡ false
        → ExitsLaw layout meaning b (keeps_results kind values block)
    results_keep Action values fit = record {
      law = (port_stays 0 (gives_room 1 (takes_next (port_at 0 block))) refl).law;
    }
    results_keep _ [] fit = record {
      law = (port_stays 0 (gives_room 1 (takes_next (port_at 0 block))) refl).law;
    }
    results_keep _ (value ∷ values) fit = record {
      law = calls_keep_law.put (is_pending (record block { ports = set block.ports 0 (takes_next (port_at 0 block)) }))
          block.stopped block.exits
          (port_stays 0 (takes_next (port_at 0 block)) refl).law (value ∷ values)
          (unit_weight (port_at 0 block).capacity) fit;
    }

    result_keeps : (made : Result (List Value) ℕ)
        → lacks_ids (put_by_kind block.kind (values_of_result made)) block.exits ≡ false
        → ExitsLaw layout meaning b (yields made block)
    result_keeps (Ok values) fit = results_keep block.kind values fit
    result_keeps (Err number) fit = record {
      law = law_carries (is_pending block) true block.stopped block.exits (λ _. refl) law.law;
    }

    make_keeps : (result : Value → Result (List Value) ℕ) (value : Option Value)
        → lacks_ids (put_of block.kind result value) block.exits ≡ false
        → ExitsLaw layout meaning b (makes_of result value block)
    make_keeps result None fit = law
    make_keeps result (Some value) fit = result_keeps (made_of block.kind result value) fit

    row_keeps : lacks_ids (row_of (next_group block) ∷ []) block.exits ≡ false → ExitsLaw layout meaning b (makes_row block)
    row_keeps fit = record {
      law = calls_keep_law.put
          (is_pending (record block { ports = set block.ports 0 (takes_group block.size (port_at 0 block)) }))
          block.stopped block.exits
          (port_stays 0 (takes_group block.size (port_at 0 block)) refl).law (row_of (next_group block) ∷ [])
          (group_weight (port_at 0 block).capacity (length (next_group block))) fit;
    }

    tuple_keeps : lacks_ids (tuple_of block.ports ∷ []) block.exits ≡ false → ExitsLaw layout meaning b (makes_tuple block)
    tuple_keeps fit = record {
      law = calls_keep_law.put (is_pending (makes_tuple block)) block.stopped block.exits
          (subst (λ (seen : Option ℕ). OutletLaw (is_some block.fault || is_some seen) block.stopped block.exits)
          (sym (seen_over_ports takes_next (λ port. refl) block.ports)) law.law)
          (tuple_of block.ports ∷ []) (unit_weight (port_at 0 block).capacity) fit;
    }

    group_keeps : (size weight : ℕ) (order : List ℕ) → lacks_ids (group_of size order block.ports ∷ []) block.exits ≡ false
        → ExitsLaw layout meaning b (makes_group size weight order block)
    group_keeps size weight order fit = record {
      law = calls_keep_law.put (is_pending (makes_group size weight order block)) block.stopped block.exits
          (subst (λ (seen : Option ℕ). OutletLaw (is_some block.fault || is_some seen) block.stopped block.exits)
          (sym (seen_by_group size order block.ports)) law.law)
          (group_of size order block.ports ∷ []) weight fit;
    }

    -- room comes back to its ports
    room_comes : (room : ℕ) → ExitsLaw layout meaning b (record block { ports = map (gives_room room) block.ports })
    room_comes room =
        let same = seen_over_ports (gives_room room) (λ port. refl) block.ports in
        ports_change (map (gives_room room) block.ports)
        (λ seen. subst (λ (f : Option ℕ). is_some f ≡ true) (sym same) seen)

    copy_keeps : (value : Option Value) → ExitsLaw layout meaning b (copies_next value block)
    copy_keeps None = law
    copy_keeps (Some value) = record {
      law = (port_stays 0 (gives_room (1 - copies_weight (puts value block.copies)) (takes_next (port_at 0 block))) refl).law;
    }

    give_keeps : (k : ℕ) → k < length block.exits.ends → may_give k block.exits ≡ true
        → ExitsLaw layout meaning b (gives_out k block)
    give_keeps k here may =
        let o = block.exits in
        let end = end_at o k in
        let room = wanted_room o.next (is_some o.offer) end.stage end.rule.max end.given may
        (law.law.each k here).room in
        let back = comes_back (gives k o) block.copies block.kind (head_of o) block.ports in
        let same = seen_over_back (gives k o) block.copies block.kind (head_of o) block.ports in
        let over = ports_change back
        (λ seen. subst (λ (f : Option ℕ). is_some f ≡ true) (sym same) seen) in
        let pending = is_some block.fault || is_some (fault_at_ports back) in
        record {
          law = calls_keep_law.room_back pending block.stopped (gives k o)
              (calls_keep_law.give pending block.stopped o over.law k here may room);
        }

    stops_keep : (how : Outcome) → block.stopped ≡ None → ExitsLaw layout meaning b (stops_by how block)
    stops_keep how going =
        let same = seen_over_ports port_closes (λ port. refl) block.ports in
        let over = ports_change (map port_closes block.ports)
        (λ seen. subst (λ (f : Option ℕ). is_some f ≡ true) (sym same) seen) in
        let pending = is_some block.fault || is_some (fault_at_ports (map port_closes block.ports)) in
        record { law = stop_keeps pending block.stopped how block.exits going over.law }

  closes_keep : (node : NodeState) (p k : ℕ) (hand : Option Value)
      → is_hand (port_stage k (port_at p node.block)) ≡ true
      → ExitsLaw layout meaning b node.block → ExitsLaw layout meaning b (holds_in p k hand node).block
  closes_keep node p k None in_hand law = law
  closes_keep node p k (Some value) in_hand law =
      end_offers node.block law p k (closes k value (port_at p node.block)) _ refl is_hand (λ how. refl) in_hand

  gave_keeps : (node : NodeState) (k : ℕ) (head : Option Value) → k < length node.block.exits.ends
      → may_give k node.block.exits ≡ true
      → ExitsLaw layout meaning b node.block → ExitsLaw layout meaning b (gives_from k head node).block
  gave_keeps node k None here may law = law
  gave_keeps node k (Some value) here may law = give_keeps node.block law k here may

  exits_keep : (node : NodeState) (call : NodeCall) → ExitsLaw layout meaning b node.block
      → MayCall layout meaning b call node
      → ExitsLaw layout meaning b (after_call layout meaning b call node).block
  exits_keep node (NodeCall.want p k) law may =
      end_offers node.block law p k (wants k (port_at p node.block)) _ refl is_offer (λ how. refl) may.0.stands
  exits_keep node (NodeCall.turn_down p k) law may =
      end_offers node.block law p k (turns_down k (port_at p node.block)) _ refl is_posted (λ how. refl) may.stands
  exits_keep node (NodeCall.postpone p k) law may =
      end_offers node.block law p k (postpones k (port_at p node.block)) _ refl
      is_offered (λ how. refl) may.offered.stands
  exits_keep node (NodeCall.refuse p k) law may =
      end_offers node.block law p k (refuses k (port_at p node.block)) _ refl may_be_refused (λ how. refl) may.0.stands
  exits_keep node (NodeCall.consume p k) law may =
      end_offers node.block law p k (consumes k (port_at p node.block)) _ refl is_postponed (λ how. refl) may.0.stands
  exits_keep node (NodeCall.ask p k) law may =
      end_offers node.block law p k (asks k (port_at p node.block)) _ refl is_postponed (λ how. refl) (asks_so p k node may).waits
  exits_keep node (NodeCall.claim p k) law may =
      end_offers node.block law p k (claims k (port_at p node.block)) _ refl is_holding (λ how. refl) (claims_so p k node may).held
  exits_keep node (NodeCall.release p k) law may =
      end_offers node.block law p k (releases k (port_at p node.block)) _ refl is_holding (λ how. refl) (releases_so p k node may).held
  exits_keep node (NodeCall.open_with p k value) law may =
      end_offers node.block law p k (opens k value (port_at p node.block)) _ refl is_arrived (λ how. refl) may.stands
  exits_keep node (NodeCall.close p k) law may =
      let held = holds_in p k (hand_at p k node) node in
      let kept = closes_keep node p k (hand_at p k node) may.stands law in
      taken_in_keeps (λ new journal. ExitsLaw layout meaning b new) p k (hand_at p k node) node kept
      (λ at_once. copy_keeps held.block kept (first_of (held_by held.block)))
  exits_keep node (NodeCall.offer k) law may =
      let o = node.block.exits in
      exits_change node.block law (offers k (prepares o))
      (offer_keeps (is_pending node.block) node.block.stopped o k may.going may.next law.law)
  exits_keep node (NodeCall.give k) law may = gave_keeps node k (head_of node.block.exits) may.place may.wanted law
  exits_keep node (NodeCall.hold k) law may =
      exits_change node.block law (holds k node.block.exits)
      (calls_keep_law.hold (is_pending node.block) node.block.stopped node.block.exits law.law k may.place may.asked)
  exits_keep node (NodeCall.deny k) law may =
      exits_change node.block law (denies k node.block.exits)
      (calls_keep_law.deny (is_pending node.block) node.block.stopped node.block.exits law.law k may.place may.stands)
  exits_keep node (NodeCall.withdraw k) law may =
      exits_change node.block law (withdraws k node.block.exits)
      (calls_keep_law.withdraw (is_pending node.block) node.block.stopped node.block.exits law.law k may.waits.place
      may.waits.stands may.faults)
  exits_keep node (NodeCall.end_link k how) law may =
      exits_change node.block law (ends_link k how node.block.exits)
      (calls_keep_law.ends (is_pending node.block) node.block.stopped node.block.exits law.law k may.is_at_home.place
      how may.is_at_home.stands may.is_due)
  exits_keep node (NodeCall.look_in p k phase) law may =
      end_moves node.block law p k (port_looks k phase (port_at p node.block)) _ refl
      (seen_by_looks (port_stage k (port_at p node.block)) phase)
  exits_keep node (NodeCall.look_out k phase) law may =
      let o = node.block.exits in
      exits_change node.block law (looks k phase o)
      (calls_keep_law.look (is_pending node.block) node.block.stopped o law.law k may.place phase may.put_off)
  exits_keep node (NodeCall.copy call) law may =
      let room = copies_weight node.block.copies - copies_weight (after_copy call node.block.copies) in
      record { law = (room_comes node.block law room).law }
  exits_keep node NodeCall.begin law may = record { law = law.law }
  exits_keep node NodeCall.make law may =
      let block = node.block in
      let result = block_makes layout meaning b in
      let next = put_next result block in
      let fits_node : (batched : Bool) → is_batched_join block.kind ≡ batched
      → lacks_ids (cond batched (next_group_in node ∷ []) next) block.exits ≡ false =
      λ batched is. ap (λ (kind : Bool). lacks_ids (cond kind (next_group_in node ∷ []) next) block.exits) (sym is) ∙ may.ids in
      let fits : is_batched_join block.kind ≡ false → (made : BlockUnit) → unit_of block.kind ≡ made
      → lacks_ids (puts_by_unit made result block) block.exits ≡ false =
      λ grouped made is.
      ap (λ (u : BlockUnit). lacks_ids (puts_by_unit u result block) block.exits) (sym is) ∙ fits_node false grouped in
      next_by (λ (new : NodeState). ExitsLaw layout meaning b new.block) result node
      (λ batched. group_keeps block law block.size 0 (order_in node) (fits_node true batched))
      (λ grouped.
      makes_by (ExitsLaw layout meaning b) result block
      (λ batch. row_keeps block law (fits grouped unit.Row (row_is (unit_of block.kind) batch)))
      (λ join. tuple_keeps block law (fits grouped unit.Tuple (tuple_is (unit_of block.kind) join)))
      (λ broadcast. copy_keeps block law (first_of (held_by block)))
      (λ single alone shared. make_keeps block law result (first_of (held_by block))
      (ap (λ (values : List Value). lacks_ids values block.exits) (sym (puts_one result block single alone shared))
      ∙ fits_node false grouped)))
  exits_keep node (NodeCall.complete p) law may = port_stays node.block law p (port_closes (port_at p node.block)) refl
  exits_keep node (NodeCall.fault number) law may =
      stops_keep node.block law (outcome.Faulted number) (may_fault_tells node.block number may).going
  exits_keep node NodeCall.finish law may =
      stops_keep node.block law outcome.Done (may_finish_tells node.block may).going

pub exits_kept : (W : Type 0) → ExitsKept W
exits_kept W layout meaning b node call law may = exits_keep layout meaning b node call law.exits may
