-- Each call of a node keeps its block in order, where that copies each message over the last one.
use Rattle.std.proofs.Common.{◌≡◌, ℕ, ◌<◌, ◌==◌, Bool, true, false, not, ◌&&◌, ◌||◌, List, [], ◌∷◌, ◌++◌, length, set, Option, Some, None, is_some, is_none, Result, refl, ap, sym, ◌∙◌, subst, arith}
use Rattle.std.proofs.lemmas.Bool.{and_parts}
use Rattle.std.proofs.lemmas.List.{get_or-set_same}
use Rattle.flow_value.specs.declared.value.Value.{Value}
use Rattle.flow_link.specs.declared.phase.LinkEnd.{LinkEnd}
use Rattle.flow_link.specs.declared.stage.TargetStage.{TargetStage}
use Rattle.flow_link.specs.declared.stage.TargetStage.TheVariants as target
use Rattle.flow_link.specs.declared.trace.Mark.TheVariants.{Took, Complete, Fault, Done}
use Rattle.flow_link.specs.declared.trace.Outcome.TheVariants as outcome
use Rattle.flow_link.specs.Layout.{Layout}
use Rattle.flow_link.specs.Plan.{is_broadcast, is_one_taker, is_write_once}
use Rattle.flow_link.specs.declared.kinds.BlockUnit.{BlockUnit}
use Rattle.flow_link.specs.declared.kinds.BlockUnit.TheVariants as unit
use Rattle.flow_link.specs.Kinds.{unit_of}
use Rattle.flow_link.proofs.KindsTell.{kind_tells, copy_is}
use Rattle.flow_link.proofs.ListTests.{never_both}
use Rattle.flow_intake.specs.Port.{EndState, PortState, fresh_port, stage_at as port_stage, is_offer, is_hand, is_holding}
use Rattle.flow_intake.specs.Calls.{first_of, is_offered, is_posted, is_postponed, is_arrived, may_be_refused, wants, turns_down, postpones, refuses, consumes, asks, claims, releases, opens, closes, looks as port_looks}
use Rattle.flow_intake.specs.Ended.{fault_seen, fault_at_ends}
use Rattle.flow_outlet.specs.Outlet.{is_empty}
use Rattle.flow_outlet.proofs.OffersInOrder.{offers_in_order}
use Rattle.flow_spread.specs.Spread.{is_spread_free}
use Rattle.flow_block.specs.Block.{BlockState, port_at, port_in, held_by, is_batch, is_join, has_ports}
use Rattle.flow_block.proofs.CopiesTaken.{taken_in_keeps, held_stopped, copies_once}
use Rattle.flow_block_law.proofs.OnceMakesNone.{none_next}
use Rattle.flow_block_law.specs.Copier.{Copier}
use Rattle.flow_block.specs.Copies.{may_put, none_waits}
use Rattle.flow_block.specs.Jobs.{begins}
use Rattle.flow_block.specs.Node.{NodeState, NodeCall, hand_at, in_link_at, holds_in}
use Rattle.flow_block_law.specs.NodeKeeps.{MayCall, after_call, InAt}
use Rattle.flow_block.specs.Peeks.{may_work, has_next, has_unit}
use Rattle.flow_block.specs.Planned.{block_makes}
use Rattle.flow_block_law.proofs.CopierHolds.{no_exit_at, ports_change, port_changes, jobs_change, copy_keeps, put_keeps, complete_keeps, stop_keeps, none_left}
use Rattle.flow_block_law.proofs.FaultsSeen.{StaysSeen, stays_at_ends, stays_at_ports, seen_by_looks, unseen_where}
use Rattle.flow_block_law.proofs.GoingOn.{may_work_tells, may_fault_tells, may_finish_tells}
use Rattle.flow_block_law.proofs.JournalTells.{gave_same, took_here}
use Rattle.flow_block_law.proofs.Joins.{batched_is}
use Rattle.flow_block_law.proofs.KindsBuilt.{makes_by, next_by}
use Rattle.flow_block_law.proofs.WishesTell.{asks_so, claims_so, releases_so}

free_to_copy : (some broadcast free : Bool) → (some && (not broadcast || free)) ≡ true → broadcast ≡ true → free ≡ true
free_to_copy true true free e is = e
free_to_copy true false free e is = absurd (cc)
free_to_copy false broadcast free e is = absurd (cc)

-- what goes on to make its next outputs may copy
may_put_tells : (block : BlockState) → is_broadcast block.kind ≡ true → may_work block ≡ true → may_put block.copies ≡ true
may_put_tells block broadcast may =
    let goes = and_parts (is_none block.stopped && is_none block.fault) (has_next block) may in
    let next : has_unit unit.Copy block ≡ true =
    ap (λ (u : BlockUnit). has_unit u block) (sym (copy_is (unit_of block.kind) broadcast)) ∙ goes.1 in
    free_to_copy (not (is_empty (held_by block))) (is_broadcast block.kind) (may_put block.copies) next broadcast

pub may_copy_tells : (block : BlockState) → is_broadcast block.kind ≡ true → may_work block ≡ true → is_spread_free block.copies ≡ true
may_copy_tells block broadcast may =
    (and_parts (is_spread_free block.copies) (none_waits block.copies) (may_put_tells block broadcast may)).0

pub may_copy_next : (block : BlockState) → is_broadcast block.kind ≡ true → may_work block ≡ true → none_waits block.copies ≡ true
may_copy_next block broadcast may =
    (and_parts (is_spread_free block.copies) (none_waits block.copies) (may_put_tells block broadcast may)).1

module _ {W : Type 0} (layout : Layout W) (meaning : ℕ → Value → Result (List Value) ℕ) (b : ℕ) (node : NodeState)
    (law : Copier layout b node.block node.journal) where
  abbrev block : BlockState
  block = node.block

  -- one end of a link into it moves
  end_moves : (p k : ℕ) (port : PortState) (end : EndState) → port.ends ≡ set (port_at p block).ends k end
      → port.waiting ≡ (port_at p block).waiting → StaysSeen (fault_seen (port_stage k (port_at p block))) (fault_seen end.stage)
      → Copier layout b (record block { ports = set block.ports p port }) node.journal
  end_moves p k port end is waits stays =
      port_changes layout b block node.journal law p port
      (λ seen. subst (λ (ends : List EndState). is_some (fault_at_ends ends) ≡ true) (sym is)
      (stays_at_ends (port_at p block).ends k end stays seen)) waits

  -- where such a test passes
  end_offers : (p k : ℕ) (port : PortState) (end : EndState) → port.ends ≡ set (port_at p block).ends k end
      → port.waiting ≡ (port_at p block).waiting → (test : TargetStage → Bool) → ((how : LinkEnd) → test (target.Ended how) ≡ false)
      → test (port_stage k (port_at p block)) ≡ true
      → Copier layout b (record block { ports = set block.ports p port }) node.journal
  end_offers p k port end is waits test ended_not passes =
      let unseen = unseen_where test ended_not (port_stage k (port_at p block)) passes in
      end_moves p k port end is waits (λ seen. let never : false ≡ true = ap is_some (sym unseen.fault) ∙ seen in absurd (cc))

  take_keeps : (p k : ℕ) (hand : Option Value) → p < length block.ports → length block.ports ≡ 1
      → is_hand (port_stage k (port_at p block)) ≡ true
      → Copier layout b (holds_in p k hand node).block (holds_in p k hand node).journal
  take_keeps p k None here alone in_hand = law
  take_keeps p k (Some value) here alone in_hand =
      let new = closes k value (port_at p block) in
      let link = in_link_at p k node in
      let first : p ≡ 0 = omega (arith, here, alone) in
      let unseen = unseen_where is_hand (λ how. refl) (port_stage k (port_at p block)) in_hand in
      let at_port = get_or-set_same block.ports p new (fresh_port None) here in
      ports_change layout b block node.journal law (set block.ports p new) (node.journal ++ Took p link value ∷ []) (value ∷ [])
      (stays_at_ports block.ports p new (stays_at_ends (port_at p block).ends k _
      (λ seen. let never : false ≡ true = ap is_some (sym unseen.fault) ∙ seen in absurd (cc))))
      (ap (λ (q : ℕ). (port_in (set block.ports p new) q).waiting) (sym first)
      ∙ ap (λ (port : PortState). port.waiting) at_port
      ∙ ap (λ (q : ℕ). (port_in block.ports q).waiting ++ value ∷ []) first)
      (took_here (λ port from. true) node.journal p link value refl)
      (λ l. gave_same (λ n. n == l) node.journal (Took p link value) refl)

  none_out : (k : ℕ) {Q : Type 0} → k < length block.exits.ends → Q
  none_out k there = absurd (no_exit_at layout b block node.journal law k there)

  pub call_keeps : (call : NodeCall) → MayCall layout meaning b call node → length block.ports ≡ 1
      → is_one_taker block.kind ≡ false → (is_write_once block.kind ≡ true → held_by block ≡ [])
      → ((p k : ℕ) → InAt is_hand p k node → block.stopped ≡ None)
      → Copier layout b (after_call layout meaning b call node).block (after_call layout meaning b call node).journal
  call_keeps (NodeCall.want p k) may alone copying none goes =
      end_offers p k (wants k (port_at p block)) _ refl refl is_offer (λ how. refl) may.0.stands
  call_keeps (NodeCall.turn_down p k) may alone copying none goes =
      end_offers p k (turns_down k (port_at p block)) _ refl refl is_posted (λ how. refl) may.stands
  call_keeps (NodeCall.postpone p k) may alone copying none goes =
      end_offers p k (postpones k (port_at p block)) _ refl refl is_offered (λ how. refl) may.offered.stands
  call_keeps (NodeCall.refuse p k) may alone copying none goes =
      end_offers p k (refuses k (port_at p block)) _ refl refl may_be_refused (λ how. refl) may.0.stands
  call_keeps (NodeCall.consume p k) may alone copying none goes =
      end_offers p k (consumes k (port_at p block)) _ refl refl is_postponed (λ how. refl) may.0.stands
  call_keeps (NodeCall.ask p k) may alone copying none goes =
      end_offers p k (asks k (port_at p block)) _ refl refl is_postponed (λ how. refl) (asks_so p k node may).waits
  call_keeps (NodeCall.claim p k) may alone copying none goes =
      end_offers p k (claims k (port_at p block)) _ refl refl is_holding (λ how. refl) (claims_so p k node may).held
  call_keeps (NodeCall.release p k) may alone copying none goes =
      end_offers p k (releases k (port_at p block)) _ refl refl is_holding (λ how. refl) (releases_so p k node may).held
  call_keeps (NodeCall.open_with p k value) may alone copying none goes =
      end_offers p k (opens k value (port_at p block)) _ refl refl is_arrived (λ how. refl) may.stands
  call_keeps (NodeCall.close p k) may alone copying none goes =
      let held = holds_in p k (hand_at p k node) node in
      let kept = take_keeps p k (hand_at p k node) may.port alone may.stands in
      taken_in_keeps (Copier layout b) p k (hand_at p k node) node kept
      (λ at_once. put_keeps layout b held.block held.journal kept (first_of (held_by held.block)) refl at_once.alone
      (held_stopped p k (hand_at p k node) node ∙ goes p k may) at_once.free at_once.ids)
  call_keeps (NodeCall.offer k) may alone copying none goes = none_out k ((offers_in_order.named block.exits k).0 may.next).there
  call_keeps (NodeCall.give k) may alone copying none goes = none_out k may.place
  call_keeps (NodeCall.hold k) may alone copying none goes = none_out k may.place
  call_keeps (NodeCall.deny k) may alone copying none goes = none_out k may.place
  call_keeps (NodeCall.withdraw k) may alone copying none goes = none_out k may.waits.place
  call_keeps (NodeCall.end_link k how) may alone copying none goes = none_out k may.is_at_home.place
  call_keeps (NodeCall.look_in p k phase) may alone copying none goes =
      end_moves p k (port_looks k phase (port_at p block)) _ refl refl (seen_by_looks (port_stage k (port_at p block)) phase)
  call_keeps (NodeCall.look_out k phase) may alone copying none goes = none_out k may.place
  call_keeps (NodeCall.copy call) may alone copying none goes = copy_keeps layout b block node.journal law node.grouped node.round call may
  call_keeps NodeCall.begin may alone copying none goes = jobs_change layout b block node.journal law (begins block.jobs)
  call_keeps NodeCall.make may alone copying none goes =
      next_by (λ (new : NodeState). Copier layout b new.block new.journal) (block_makes layout meaning b) node
      (λ batched. never_both (has_ports block.kind) (ap has_ports (batched_is block.kind batched))
      (kind_tells is_one_taker false has_ports false refl block.kind copying))
      (λ grouped.
      makes_by (λ new. Copier layout b new node.journal) (block_makes layout meaning b) block
      (λ batch. never_both (is_batch block.kind) batch (kind_tells is_one_taker false is_batch false refl block.kind copying))
      (λ join. never_both (is_join block.kind) join (kind_tells is_one_taker false is_join false refl block.kind copying))
      (λ broadcast. put_keeps layout b block node.journal law (first_of (held_by block)) refl alone
      (may_work_tells block may.waits).going (may_copy_tells block broadcast may.waits) (may.copy_id broadcast))
      (λ other alone single. absurd (none_next block (copies_once block.kind copying single) none may.waits)))
  call_keeps (NodeCall.complete p) may alone copying none goes =
      complete_keeps layout b block node.journal law p (Complete p) refl (λ test. refl)
  call_keeps (NodeCall.fault number) may alone copying none goes =
      let tells = may_fault_tells block number may in
      stop_keeps layout b block node.journal law (outcome.Faulted number) (Fault number) refl (λ test. refl) tells.going
      tells.copies_rest (λ done. absurd (cc))
  call_keeps NodeCall.finish may alone copying none goes =
      let tells = may_finish_tells block may in
      stop_keeps layout b block node.journal law outcome.Done Done refl (λ test. refl) tells.going tells.copies_rest
      (λ done. none_left block.copies tells.none_copied)
