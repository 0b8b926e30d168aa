-- What tells that a block goes on: what it may do by itself, an open port, or a link with something under way.
use Rattle.std.proofs.Common.{◌≡◌, ℕ, zero, suc, ◌+◌, ◌<◌, ltb, ◌==◌, cond, Bool, true, false, not, ◌&&◌, List, [], ◌∷◌, length, set, Option, Some, None, is_none, is_some, Result, refl, sym, ◌∙◌, arith, eq-eqb, eqb-true, ◌||◌, ap}
use Rattle.std.proofs.lemmas.Bool.{not-true, and_parts, false_from_ne_true}
use Rattle.flow_value.specs.declared.value.Value.{Value}
use Rattle.flow_link.specs.declared.stage.SourceStage.{SourceStage}
use Rattle.flow_link.specs.declared.stage.SourceStage.TheVariants.{Free, Accepted, Claimed, Wished, AskedBy, Waiting, Refused, Ended}
use Rattle.flow_link.specs.declared.trace.Mark.{Mark}
use Rattle.flow_link.specs.declared.phase.Phase.{Phase}
use Rattle.flow_link.specs.Layout.{Layout}
use Rattle.flow_link.specs.Plan.{has_work}
use Rattle.flow_link.specs.Stage.{source_looks}
use Rattle.flow_link.specs.Trace.{has_complete}
use Rattle.flow_link.specs.declared.kinds.BlockUnit.{BlockUnit}
use Rattle.flow_link.specs.declared.kinds.BlockUnit.TheVariants as unit
use Rattle.flow_link.specs.Kinds.{unit_of}
use Rattle.flow_link.proofs.ListTests.{never_both}
use Rattle.flow_link.proofs.KindsTell.{row_is, tuple_is, group_is}
use Rattle.flow_intake.specs.Port.{coming}
use Rattle.flow_intake.specs.PortLaw.{has_ended}
use Rattle.flow_intake.specs.Ended.{has_seen_completion}
use Rattle.flow_outlet.specs.declared.ends.OutEnd.{OutEnd}
use Rattle.flow_outlet.specs.End.{is_away, is_waiting, count_at, end_in}
use Rattle.flow_outlet.specs.Outlet.{OutletState, is_empty, is_wanted, is_asked, may_hold, is_wish, is_at_rest, stage_at}
use Rattle.flow_spread.specs.Spread.{is_at_rest as is_spread_at_rest}
use Rattle.flow_group.specs.Tuple.{has_tuple}
use Rattle.flow_block.specs.Block.{BlockState, port_at, held_by, is_batch, is_join, is_batched_join}
use Rattle.flow_block.specs.Copies.{copies_left}
use Rattle.flow_block.specs.Jobs.{out_count}
use Rattle.flow_block.specs.Peeks.{could_stop, is_out_at_rest, is_copied_out, has_group, has_next, may_work, may_begin, may_make, may_complete, next_fault, may_finish, fault_cause, nothing_comes, holds_nothing, is_complete, has_group_of_ports, is_written, has_unit}
use Rattle.flow_block_law.specs.NodeLaw.{EndsLaw, outcome_in}
use Rattle.flow_block_law.proofs.JournalTells.{open_tells}
use Rattle.flow_link.proofs.TestsTell.{none_is, none_unless}

-- what counts nothing, and its elements
none_counted : (b : Bool) (n : ℕ) → (cond b 1 0 + n == 0) ≡ true → (b ≡ false) × ((n == 0) ≡ true)
none_counted true n e = let wrong = eqb-true (1 + n) 0 e in absurd (omega arith)
none_counted false n e = let none = eqb-true (0 + n) 0 e in (refl, eq-eqb n 0 (omega arith))

counts_none : (b : Bool) (n : ℕ) → b ≡ false → (n == 0) ≡ true → (cond b 1 0 + n == 0) ≡ true
counts_none true n e none = absurd (cc)
counts_none false n e none = let is = eqb-true n 0 none in eq-eqb (0 + n) 0 (omega arith)

pub nothing_away : (ends : List OutEnd) (k : ℕ) → (count_at is_away ends == 0) ≡ true
    → is_away (end_in ends k).stage ≡ false
nothing_away [] k rest = refl
nothing_away (end ∷ ends) zero rest = (none_counted (is_away end.stage) (count_at is_away ends) rest).0
nothing_away (end ∷ ends) (suc k) rest =
    nothing_away ends k (none_counted (is_away end.stage) (count_at is_away ends) rest).1

-- an end that changes, and has nothing under way where it had nothing
pub rest_stays : (ends : List OutEnd) (k : ℕ) (end : OutEnd)
    → (is_away (end_in ends k).stage ≡ false → is_away end.stage ≡ false)
    → (count_at is_away ends == 0) ≡ true → (count_at is_away (set ends k end) == 0) ≡ true
rest_stays [] k end home rest = rest
rest_stays (first ∷ ends) zero end home rest =
    let none = none_counted (is_away first.stage) (count_at is_away ends) rest in
    counts_none (is_away end.stage) (count_at is_away ends) (home none.0) none.1
rest_stays (first ∷ ends) (suc k) end home rest =
    let none = none_counted (is_away first.stage) (count_at is_away ends) rest in
    counts_none (is_away first.stage) (count_at is_away (set ends k end)) none.0 (rest_stays ends k end home none.1)

pub wanted_away : (next : ℕ) (out : Bool) (stage : SourceStage) → is_wanted next out stage ≡ true → is_away stage ≡ true
wanted_away next out (Accepted i) e = refl
wanted_away next out (Claimed i) e = refl
wanted_away next out (Wished i) e = refl
wanted_away next out stage e = absurd (cc)

asked_stage_away : (next : ℕ) (stage : SourceStage) → is_asked next stage ≡ true → is_away stage ≡ true
asked_stage_away next (AskedBy i) e = refl
asked_stage_away next stage e = absurd (cc)

-- what the block may keep for a target is under way
pub asked_away : (k : ℕ) (o : OutletState) → may_hold k o ≡ true → is_away (stage_at o k) ≡ true
asked_away k o may =
    asked_stage_away o.next (stage_at o k) (and_parts (is_asked o.next (stage_at o k)) (not (is_some o.offer)) may).0

pub wish_away : (stage : SourceStage) → is_wish stage ≡ true → is_away stage ≡ true
wish_away (Wished i) e = refl
wish_away (AskedBy i) e = refl
wish_away stage e = absurd (cc)

pub waiting_away : (stage : SourceStage) → is_waiting stage ≡ true → is_away stage ≡ true
waiting_away (Waiting i) e = refl
waiting_away stage e = absurd (cc)

-- a look finds nothing under way that was not
pub look_stays_home : (stage : SourceStage) (phase : Phase) → is_away stage ≡ false
    → is_away (source_looks stage phase) ≡ false
look_stays_home Free phase e = refl
look_stays_home Refused phase e = refl
look_stays_home (Ended how) phase e = refl
look_stays_home stage phase e = absurd (cc)

-- What the tests of what it does by itself tell

could_tells : (block : BlockState) → could_stop block ≡ true
    → (block.stopped ≡ None) × (nothing_comes block.ports ≡ true)
could_tells block e =
    let both = and_parts (is_none block.stopped) (nothing_comes block.ports) e in
    (none_is block.stopped both.0, both.1)

pub record MayMake (block : BlockState) : Type 0 where
  pub going : block.stopped ≡ None
  pub no_fault : block.fault ≡ None
  -- a batch has a row to make
  pub group : is_batch block.kind ≡ true → has_group block ≡ true
  -- a join has a tuple to make
  pub tuple : is_join block.kind ≡ true → has_tuple block.ports ≡ true
  -- a batched join has a group to make
  pub groups : is_batched_join block.kind ≡ true → has_group_of_ports block ≡ true

-- of a block of this unit
next_at : (made : BlockUnit) (block : BlockState) → unit_of block.kind ≡ made → has_next block ≡ true → has_unit made block ≡ true
next_at made block is next = ap (λ (u : BlockUnit). has_unit u block) (sym is) ∙ next

pub may_work_tells : (block : BlockState) → may_work block ≡ true → MayMake block
may_work_tells block e =
    let outer = and_parts (is_none block.stopped && is_none block.fault) (has_next block) e in
    let inner = and_parts (is_none block.stopped) (is_none block.fault) outer.0 in
    record {
      going = none_is block.stopped inner.0;
      no_fault = none_is block.fault inner.1;
      group = λ batch. next_at unit.Row block (row_is (unit_of block.kind) batch) outer.1;
      tuple = λ join. next_at unit.Tuple block (tuple_is (unit_of block.kind) join) outer.1;
      groups = λ batched. next_at unit.Group block (group_is (unit_of block.kind) batched) outer.1;
    }

pub may_begin_tells : (block : BlockState) → may_begin block ≡ true → MayMake block
may_begin_tells block e =
    let few = ltb (out_count block.jobs.slots) block.jobs.lanes in
    let outer =
    and_parts (may_work block && has_work block.kind && few) (ltb (length block.jobs.slots) (length (held_by block))) e in
    let inner = and_parts (may_work block && has_work block.kind) few outer.0 in
    may_work_tells block (and_parts (may_work block) (has_work block.kind) inner.0).0

pub may_make_tells : (block : BlockState) → may_make block ≡ true → MayMake block
may_make_tells block e =
    may_work_tells block
    (and_parts (may_work block) (not (has_work block.kind)) e).0

pub record MayComplete (p : ℕ) (block : BlockState) : Type 0 where
  pub open_port : has_ended (port_at p block).refusing ≡ false
  pub none_comes : coming (port_at p block) ≡ 0
  pub completion : (has_seen_completion (port_at p block).ends || is_written block) ≡ true

pub may_complete_tells : (p : ℕ) (block : BlockState) → may_complete p block ≡ true → MayComplete p block
may_complete_tells p block e =
    let open_port = not (has_ended (port_at p block).refusing) in
    let empty = coming (port_at p block) == 0 in
    let outer = and_parts (open_port && empty) (has_seen_completion (port_at p block).ends || is_written block) e in
    let inner = and_parts open_port empty outer.0 in
    record {
      open_port = not-true (has_ended (port_at p block).refusing) inner.0;
      none_comes = eqb-true (coming (port_at p block)) 0 inner.1;
      completion = outer.1;
    }

pub record MayFault (block : BlockState) (number : ℕ) : Type 0 where
  pub going : block.stopped ≡ None
  pub none_comes : nothing_comes block.ports ≡ true
  pub rest : is_at_rest block.exits ≡ true
  pub copies_rest : is_spread_at_rest block.copies ≡ true
  pub cause : fault_cause block ≡ Some number

fault_may : (may : Bool) (cause : Option ℕ) (number : ℕ) → cond may cause None ≡ Some number
    → (may ≡ true) × (cause ≡ Some number)
fault_may true cause number e = (refl, e)
fault_may false cause number e = absurd (cc)

pub may_fault_tells : (block : BlockState) (number : ℕ) → next_fault block ≡ Some number → MayFault block number
may_fault_tells block number e =
    let may = fault_may (could_stop block && is_out_at_rest block) (fault_cause block) number e in
    let both = and_parts (could_stop block) (is_out_at_rest block) may.0 in
    let could = could_tells block both.0 in
    let rests = and_parts (is_at_rest block.exits) (is_spread_at_rest block.copies) both.1 in
    record { going = could.0; none_comes = could.1; rest = rests.0; copies_rest = rests.1; cause = may.1 }

pub record MayFinish (block : BlockState) : Type 0 where
  pub going : block.stopped ≡ None
  pub none_comes : nothing_comes block.ports ≡ true
  pub ended : is_complete block ≡ true
  pub empty : holds_nothing block.ports ≡ true
  pub none_left : is_empty block.exits.left ≡ true
  pub rest : is_at_rest block.exits ≡ true
  pub none_copied : copies_left block.copies ≡ 0
  pub copies_rest : is_spread_at_rest block.copies ≡ true

five : (a b c d e : Bool) → (a && b && c && d && e) ≡ true
    → (a ≡ true) × (b ≡ true) × (c ≡ true) × (d ≡ true) × (e ≡ true)
five true true true true true all = (refl, refl, refl, refl, refl)
five false b c d e all = absurd (cc)
five true false c d e all = absurd (cc)
five true true false d e all = absurd (cc)
five true true true false e all = absurd (cc)
five true true true true false all = absurd (cc)

pub may_finish_tells : (block : BlockState) → may_finish block ≡ true → MayFinish block
may_finish_tells block e =
    let outer = and_parts (could_stop block && is_complete block && holds_nothing block.ports && is_empty block.exits.left && is_at_rest block.exits)
    (is_copied_out block.copies) e in
    let all =
    five (could_stop block) (is_complete block) (holds_nothing block.ports) (is_empty block.exits.left)
    (is_at_rest block.exits) outer.0 in
    let could = could_tells block all.0 in
    let copied = and_parts (copies_left block.copies == 0) (is_spread_at_rest block.copies) outer.1 in
    record {
      going = could.0;
      none_comes = could.1;
      ended = all.1;
      empty = all.2;
      none_left = all.3;
      rest = all.4;
      none_copied = eqb-true (copies_left block.copies) 0 copied.0;
      copies_rest = copied.1;
    }

-- What the law tells

module _ {W : Type 0} (layout : Layout W) (meaning : ℕ → Value → Result (List Value) ℕ) (b : ℕ) (block : BlockState)
    (journal : List Mark) (law : EndsLaw layout meaning b block journal) where
  -- a port that has not ended
  pub open_goes_on : (p : ℕ) → p < length block.ports → has_ended (port_at p block).refusing ≡ false
      → (outcome_in journal ≡ None) × (has_complete p journal ≡ false)
  open_goes_on p below open_port = open_tells p journal (sym (law.ended_is p below) ∙ open_port)

  -- a link with something under way
  pub away_goes_on : (k : ℕ) → is_away (stage_at block.exits k) ≡ true → block.stopped ≡ None
  away_goes_on k away =
      none_unless block.stopped (false_from_ne_true (is_some block.stopped) (λ stopped.
      never_both (is_away (stage_at block.exits k)) away (nothing_away block.exits.ends k (law.at_rest stopped))))
