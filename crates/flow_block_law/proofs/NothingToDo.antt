-- What a node that has nothing to do knows of itself, where its ends rest.
use Rattle.std.proofs.Common.{◌≡◌, ℕ, ◌<◌, Bool, true, false, cond, not, ◌==◌, ◌&&◌, ◌||◌, List, [], ◌∷◌, length, is_some, is_none, Option, Some, None, Result, refl, ap, ap₂, sym, subst, ◌∙◌, arith, eq-eqb}
use Rattle.std.proofs.lemmas.Bool.{OnTrue_at, or_from, or_left, or_right, or_parts, and_from, false_from_ne_true}
use Rattle.flow_value.specs.declared.value.Value.{Value}
use Rattle.flow_value.specs.declared.when.When.{When}
use Rattle.flow_link.specs.declared.stage.SourceStage.{SourceStage}
use Rattle.flow_link.specs.declared.stage.SourceStage.TheVariants as source
use Rattle.flow_link.specs.Layout.{Layout}
use Rattle.flow_link.specs.Plan.{has_work}
use Rattle.flow_link.specs.declared.kinds.BlockUnit.{BlockUnit}
use Rattle.flow_link.specs.declared.kinds.BlockUnit.TheVariants as unit
use Rattle.flow_link.specs.Kinds.{unit_of, makes_rows, makes_tuples, makes_groups, takes_at_ports}
use Rattle.flow_link.proofs.KindsTell.{kind_tells, row_is, tuple_is, group_is}
use Rattle.flow_link.proofs.ListTests.{never_both}
use Rattle.flow_intake.specs.Port.{PortState, fresh_port, stage_at as port_stage, coming}
use Rattle.flow_outlet.specs.End.{is_over, is_spoken_for, is_waiting, is_cut, is_closed, speaks_of, rejects}
use Rattle.flow_outlet.specs.Law.{admits_head as admits}
use Rattle.flow_outlet.specs.Order.{StopsAt}
use Rattle.flow_outlet.specs.Outlet.{OutletState, first_of, is_empty, head_of, end_at, stage_at, may_offer, end_of, is_at, is_renewing, is_at_rest, only_waits, move_at}
use Rattle.flow_outlet.specs.declared.ends.OutEnd.{OutEnd}
use Rattle.flow_outlet.proofs.HeadRenewed.{renewing_waits}
use Rattle.flow_outlet.proofs.OffersInOrder.{offers_in_order}
use Rattle.flow_outlet.proofs.StagesTell.{free_is, at_itself}
use Rattle.flow_outlet.proofs.TestsTell.{three_all}
use Rattle.flow_block.specs.Block.{BlockState, port_at, held_by, is_batch, is_join, is_batched_join, has_ports}
use Rattle.flow_block.specs.Node.{NodeState}
use Rattle.flow_block_law.specs.NodeLaw.{NodeLaw}
use Rattle.flow_block_law.specs.NodeRests.{HasNothingToDo, EndsRest}
use Rattle.flow_spread.specs.Spread.{is_at_rest as is_spread_at_rest, only_waits as spread_only_waits}
use Rattle.flow_block.specs.Copies.{copies_left}
use Rattle.flow_block.specs.Peeks.{is_out_at_rest, is_copied_out, fault_at_ports, holds_nothing, has_group, has_next, is_worked_off, may_work, may_make, nothing_comes, is_pending, fault_cause, could_stop, next_fault, is_held_up, may_finish, is_complete, is_copy_held_up, would_copy, has_all_given, has_group_of_ports, has_unit, is_off_by_unit}
use Rattle.flow_block_law.proofs.CopierOf.{CopiesQuiet}
use Rattle.flow_block_law.proofs.EndsAtRest.{StaysPut, not_spoken_for, must_wait, away_waits, none_away, waiting_stays, free_stays, not_cut, not_coming}
use Rattle.flow_block_law.proofs.EndsTell.{none_come}
use Rattle.flow_block_law.proofs.FaultsSeen.{first_none}
use Rattle.flow_block_law.proofs.GoingOn.{away_goes_on, waiting_away}
use Rattle.flow_block_law.proofs.JobsRest.{holds_none}
use Rattle.flow_block_law.proofs.KindsBuilt.{has_one_port}
use Rattle.flow_link.proofs.TestsTell.{every_where}
use Rattle.flow_block.proofs.NothingLeft.{none_left}
use Rattle.flow_group.specs.Tuple.{has_tuple}

offer_none : (offer : Option ℕ) → ((j : ℕ) → offer ≡ Some j → ⊥) → offer ≡ None
offer_none None h = refl
offer_none (Some j) h = absurd (h j refl)

all_five : (a b c d e : Bool) → a ≡ true → b ≡ true → c ≡ true → d ≡ true → e ≡ true → (a && b && c && d && e) ≡ true
all_five a b c d e ea eb ec ed ee =
    and_from (a && b && c && d) e (and_from (a && b && c) d (and_from (a && b) c (and_from a b ea eb) ec) ed) ee

none_of_four : (a b c d : Bool) → a ≡ false → b ≡ false → c ≡ false → d ≡ false → (a || b || c || d) ≡ false
none_of_four a b c d ea eb ec ed =
    or_from (a || b || c) d (or_from (a || b) c (or_from a b ea eb) ec) ed

first_two_of_four : (a b c d : Bool) → (a || b || c || d) ≡ false → (a ≡ false) × (b ≡ false)
first_two_of_four a b c d e = or_parts a b (or_parts (a || b) c (or_parts (a || b || c) d e).0).0

pub left_where : (when : When) (values : List Value) → admits when (first_of values) ≡ true → is_empty values ≡ false
left_where when [] e = absurd (cc)
left_where when (value ∷ values) e = refl

not_rejected : (when : When) (head : Option Value) → admits when head ≡ true → rejects when head ≡ false
not_rejected when None e = absurd (cc)
not_rejected when (Some value) e = ap not e

closed_unless : (end : OutEnd) → end.stage ≡ source.Free → is_cut end ≡ false → is_closed end ≡ false
closed_unless end free cut = ap₂ (λ (over cut : Bool). over || cut) (ap is_over free) cut

-- What the node knows of itself

module _ {W : Type 0} (layout : Layout W) (meaning : ℕ → Value → Result (List Value) ℕ) (b : ℕ) (node : NodeState)
    (law : NodeLaw layout meaning b node) (nothing : HasNothingToDo node) (rest : EndsRest node)
    (quiet : CopiesQuiet node.block) where
  abbrev pub block : BlockState
  block = node.block

  abbrev pub exits : OutletState
  exits = node.block.exits

  none_out : exits.offer ≡ None
  none_out = offer_none exits.offer (λ j e.
      let near = law.exits.law.offer_there j e in
      never_both (is_spoken_for (stage_at exits j)) (law.exits.law.offer_out j e)
      (not_spoken_for (stage_at exits j) (rest.outs j near)))

  pub no_coming : (p : ℕ) → p < length block.ports → coming (port_at p block) ≡ 0
  no_coming p small =
      none_come (port_at p block).ends
      (λ k near. not_coming (port_stage k (port_at p block)) (rest.ins p k small near))

  none_coming : nothing_comes block.ports ≡ true
  none_coming =
      every_where (λ (port : PortState). coming port == 0) block.ports (fresh_port None)
      (λ p small. eq-eqb (coming (port_at p block)) 0 (no_coming p small))

  could : block.stopped ≡ None → could_stop block ≡ true
  could going = and_from (is_none block.stopped) (nothing_comes block.ports) (ap is_none going) none_coming

  waiting_tells : (k : ℕ) → k < length exits.ends → is_waiting (stage_at exits k) ≡ true
      → StaysPut (is_held_up block) exits.renewing (speaks_of exits.next (stage_at exits k))
  waiting_tells k small e =
      waiting_stays exits k block.stopped (is_held_up block) (stage_at exits k) e (nothing.outs k small)

  -- where the head is to be offered anew, it has been taken back everywhere
  none_back : is_renewing exits ≡ false
  none_back = false_from_ne_true (is_renewing exits) (λ e.
      let at = renewing_waits exits e in
      never_both exits.renewing at.renewing (waiting_tells at.place at.there at.waits).not_renewed)

  -- it does not fault: nothing but offers that wait could hold it up, and these it would withdraw
  no_cause_where : (cause : Option ℕ) → block.stopped ≡ None → fault_cause block ≡ cause → fault_cause block ≡ None
  no_cause_where None going e = e
  no_cause_where (Some n) going e =
      let held_up : is_held_up block ≡ true =
      three_all (could_stop block) (only_waits exits) (is_some (fault_cause block)) (could going)
      (away_waits exits.ends rest.outs) (ap is_some e) in
      let at_rest : is_at_rest exits ≡ true =
      none_away exits.ends rest.outs (λ k small.
      false_from_ne_true (is_waiting (stage_at exits k))
      (λ waits. never_both (is_held_up block) held_up (waiting_tells k small waits).not_held_up)) in
      let copy_held_up : is_copy_held_up block ≡ true =
      or_right (would_copy block) _
      (and_from (could_stop block && spread_only_waits block.copies) (is_some (fault_cause block) || has_all_given block)
      (and_from (could_stop block) (spread_only_waits block.copies) (could going) quiet.only_waits)
      (or_left (is_some (fault_cause block)) (has_all_given block) (ap is_some e))) in
      let found : next_fault block ≡ fault_cause block =
      ap (λ (stops : Bool). cond stops (fault_cause block) None)
      (and_from (could_stop block) (is_out_at_rest block) (could going)
      (and_from (is_at_rest exits) (is_spread_at_rest block.copies) at_rest (quiet.at_rest copy_held_up))) in
      sym found ∙ nothing.faults

  no_cause : block.stopped ≡ None → fault_cause block ≡ None
  no_cause going = no_cause_where (fault_cause block) going refl

  no_own_fault : block.stopped ≡ None → block.fault ≡ None
  no_own_fault going = (first_none block.fault _ (no_cause going)).0

  no_held : block.stopped ≡ None → is_batch block.kind ≡ false → is_join block.kind ≡ false → is_batched_join block.kind ≡ false
      → held_by block ≡ []
  no_held going other alone grouped =
      held_by_test (is_empty (held_by block)) refl going other alone grouped
    where
      held_by_test : (none : Bool) → is_empty (held_by block) ≡ none → block.stopped ≡ None → is_batch block.kind ≡ false
          → is_join block.kind ≡ false → is_batched_join block.kind ≡ false → held_by block ≡ []
      held_by_test true is going other alone grouped = none_left (held_by block) is
      held_by_test false is going other alone grouped =
          let well = no_own_fault going in
          holds_none block going well other alone grouped (quiet.may_copy going is) law.jobs.some_lane (law.jobs.drained well)
          nothing.makes nothing.begins nothing.ends

  all_held : has_ports block.kind ≡ false → is_empty (held_by block) ≡ true → holds_nothing block.ports ≡ true
  all_held alone none =
      every_where (λ (port : PortState). is_empty port.waiting) block.ports (fresh_port None) (λ p small.
      let first : 0 ≡ p = omega (arith, small, has_one_port layout meaning b block law.shape alone) in
      subst (λ (q : ℕ). is_empty (port_at q block).waiting ≡ true) first none)

  -- it could make nothing more
  nothing_next : block.stopped ≡ None → has_work block.kind ≡ false → has_next block ≡ false
  nothing_next going idle =
      false_from_ne_true (has_next block) (λ next.
      never_both (may_make block)
      (and_from (may_work block) (not (has_work block.kind))
      (and_from (is_none block.stopped && is_none block.fault) (has_next block)
      (and_from (is_none block.stopped) (is_none block.fault) (ap is_none going) (ap is_none (no_own_fault going))) next)
      (ap not idle))
      nothing.makes)

  -- a batch has no row to make
  no_group : block.stopped ≡ None → is_batch block.kind ≡ true → has_group block ≡ false
  no_group going batch =
      ap (λ (u : BlockUnit). has_unit u block) (sym (row_is (unit_of block.kind) batch))
      ∙ nothing_next going (kind_tells is_batch true has_work false refl block.kind batch)

  -- a join has no tuple to make
  no_tuple : block.stopped ≡ None → is_join block.kind ≡ true → has_tuple block.ports ≡ false
  no_tuple going join =
      ap (λ (u : BlockUnit). has_unit u block) (sym (tuple_is (unit_of block.kind) join))
      ∙ nothing_next going (kind_tells is_join true has_work false refl block.kind join)

  -- a batched join has no group to make
  no_group_of_ports : block.stopped ≡ None → is_batched_join block.kind ≡ true → has_group_of_ports block ≡ false
  no_group_of_ports going batched =
      ap (λ (u : BlockUnit). has_unit u block) (sym (group_is (unit_of block.kind) batched))
      ∙ nothing_next going (kind_tells is_batched_join true has_work false refl block.kind batched)

  -- it has worked off what it holds
  none_first : block.stopped ≡ None → (made : BlockUnit) → unit_of block.kind ≡ made → makes_rows made ≡ false
      → takes_at_ports made ≡ false → holds_nothing block.ports ≡ true
  none_first going made is single alone =
      let one = ap takes_at_ports is ∙ alone in
      all_held one (ap is_empty (no_held going (ap makes_rows is ∙ single)
      (kind_tells has_ports false is_join false refl block.kind one)
      (kind_tells has_ports false is_batched_join false refl block.kind one)))

  worked_off_by : block.stopped ≡ None → (made : BlockUnit) → unit_of block.kind ≡ made → is_off_by_unit made block ≡ true
  worked_off_by going unit.Message is = none_first going unit.Message is refl refl
  worked_off_by going unit.Row is = ap not (no_group going (ap makes_rows is))
  worked_off_by going unit.Tuple is = ap not (no_tuple going (ap makes_tuples is))
  worked_off_by going unit.Group is = ap not (no_group_of_ports going (ap makes_groups is))
  worked_off_by going unit.Copy is = none_first going unit.Copy is refl refl
  worked_off_by going unit.OneCopy is = none_first going unit.OneCopy is refl refl

  pub worked_off : block.stopped ≡ None → is_worked_off block ≡ true
  worked_off going = worked_off_by going (unit_of block.kind) refl

  pub none_seen : block.stopped ≡ None → fault_at_ports block.ports ≡ None
  none_seen going =
      ap (λ (none : Bool). cond none (fault_at_ports block.ports) None) (sym (worked_off going))
      ∙ (first_none block.fault (cond (is_worked_off block) (fault_at_ports block.ports) None) (no_cause going)).1

  pub not_pending : block.stopped ≡ None → is_pending block ≡ false
  not_pending going = ap₂ (λ (own seen : Option ℕ). is_some own || is_some seen) (no_own_fault going) (none_seen going)

  -- an offer that waits is the head's, of a block that has not stopped
  pub waiting_goes : (k : ℕ) → k < length exits.ends → is_waiting (stage_at exits k) ≡ true → block.stopped ≡ None
  waiting_goes k small e =
      away_goes_on layout meaning b block node.journal law.ends k (waiting_away (stage_at exits k) e)

  waiting_left : (k : ℕ) → k < length exits.ends → is_waiting (stage_at exits k) ≡ true → is_empty exits.left ≡ false
  waiting_left k small e =
      left_where (end_at exits k).rule.when exits.left
      (OnTrue_at (waiting_tells k small e).is_head (law.exits.law.each k small).admitted)

  pub free_at : (k : ℕ) → k < length exits.ends → stage_at exits k ≡ source.Free
      → (end_of (end_at exits k) block.stopped ≡ None) × (is_at (may_offer exits) k ≡ false)
  free_at k small e =
      free_stays exits k (end_of (end_at exits k) block.stopped)
      (ap (λ (stage : SourceStage). move_at exits k block.stopped (is_held_up block) stage) (sym e)
      ∙ nothing.outs k small)

  no_offer : may_offer exits ≡ None
  no_offer = offer_none (may_offer exits) (λ j e.
      let next = (offers_in_order.named exits j).0 e in
      let stays = free_at j next.there (free_is (stage_at exits j) next.free) in
      never_both (is_at (may_offer exits) j) (at_itself (may_offer exits) j e) stays.1)

  -- the head goes past each free end
  none_stops : (k : ℕ) → k < length exits.ends → is_empty exits.left ≡ false → StopsAt exits k → ⊥
  none_stops k small left stops =
      let held = offers_in_order.none exits no_offer left none_out none_back k small stops in
      let j = held.place in
      let near : j < length exits.ends = omega (arith, held.before) in
      let open_there =
      first_two_of_four (is_closed (end_at exits j)) (speaks_of exits.next (stage_at exits j)) _ _ held.stops in
      let waits = must_wait (stage_at exits j) (rest.outs j near) held.busy
      (or_parts (is_over (stage_at exits j)) (is_cut (end_at exits j)) open_there.0).0 in
      never_both (speaks_of exits.next (stage_at exits j)) (waiting_tells j near waits).is_head open_there.1

  pub not_admitted : (k : ℕ) → k < length exits.ends → stage_at exits k ≡ source.Free → block.stopped ≡ None
      → admits (end_at exits k).rule.when (head_of exits) ≡ true → ⊥
  not_admitted k small free going e =
      let end = end_at exits k in
      let own = law.exits.law.each k small in
      let cut = not_cut end block.stopped (free_at k small free).0 in
      let late : (end.declined == exits.next) ≡ false =
      false_from_ne_true (end.declined == exits.next)
      (λ late. never_both (is_pending block) (OnTrue_at late own.given_up) (not_pending going)) in
      none_stops k small (left_where end.rule.when exits.left e)
      (none_of_four (is_closed end) (speaks_of exits.next end.stage) (end.declined == exits.next)
      (rejects end.rule.when (head_of exits))
      (closed_unless end free cut) (ap (speaks_of exits.next) free) late (not_rejected end.rule.when (head_of exits) e))

  -- it could finish, if it held nothing, had nothing left and were complete
  pub not_finished : block.stopped ≡ None → is_complete block ≡ true → holds_nothing block.ports ≡ true
      → is_empty exits.left ≡ true → copies_left block.copies ≡ 0 → ⊥
  not_finished going ended none left copied =
      let at_rest : is_at_rest exits ≡ true =
      none_away exits.ends rest.outs (λ k small.
      false_from_ne_true (is_waiting (stage_at exits k))
      (λ waits. never_both (is_empty exits.left) left (waiting_left k small waits))) in
      let given : has_all_given block ≡ true =
      and_from (is_complete block && holds_nothing block.ports && is_empty exits.left) (copies_left block.copies == 0)
      (and_from (is_complete block && holds_nothing block.ports) (is_empty exits.left)
      (and_from (is_complete block) (holds_nothing block.ports) ended none) left)
      (ap (λ (left : ℕ). left == 0) copied) in
      let copy_held_up : is_copy_held_up block ≡ true =
      or_right (would_copy block) _
      (and_from (could_stop block && spread_only_waits block.copies) (is_some (fault_cause block) || has_all_given block)
      (and_from (could_stop block) (spread_only_waits block.copies) (could going) quiet.only_waits)
      (or_right (is_some (fault_cause block)) (has_all_given block) given)) in
      never_both (may_finish block)
      (and_from (could_stop block && is_complete block && holds_nothing block.ports && is_empty exits.left && is_at_rest exits)
      (is_copied_out block.copies)
      (all_five (could_stop block) (is_complete block) (holds_nothing block.ports) (is_empty exits.left)
      (is_at_rest exits)
      (could going) ended none left at_rest)
      (and_from (copies_left block.copies == 0) (is_spread_at_rest block.copies)
      (ap (λ (left : ℕ). left == 0) copied) (quiet.at_rest copy_held_up)))
      nothing.finishes
