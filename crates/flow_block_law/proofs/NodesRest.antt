-- A node that has nothing to do rests when its links do.
use Rattle.std.proofs.Common.{◌≡◌, ℕ, ◌+◌, ◌<◌, ◌≤◌, Bool, true, false, not, ltb, leb, ◌==◌, ◌&&◌, ◌||◌, List, [], ◌∷◌, length, map, sum, is_some, Option, Some, None, refl, ap, ap₂, sym, subst, ◌∙◌, ⊎_elim, inl, inr, arith, eq-eqb, eqb-true}
use Rattle.std.proofs.lemmas.Bool.{or_cases, ltb-false, lt-ltb, and_from, and_parts, or_left, or_right, false_from_ne_true, not-true}
use Rattle.flow_value.specs.declared.value.Value.{Value}
use Rattle.flow_link.specs.declared.draft.BlockKind.{BlockKind}
use Rattle.flow_link.specs.declared.draft.BlockKind.TheVariants.{Join, Buffer, Broadcast, Action, Transform, TransformMany, Batch, BatchedJoin, WriteOnce}
use Rattle.flow_link.specs.declared.plan.LinkTarget.TheVariants.{Port}
use Rattle.flow_link.specs.declared.trace.Mark.{Mark}
use Rattle.flow_link.specs.declared.trace.Outcome.{Outcome}
use Rattle.flow_link.specs.declared.trace.Outcome.TheVariants.{Done, Faulted}
use Rattle.flow_lawful.specs.Composes.{Ends}
use Rattle.flow_lawful.specs.Endings.{is_complete, has_nothing, is_complete_as}
use Rattle.flow_link.specs.Facts.{facts_in}
use Rattle.flow_link.specs.LinkOk.{IsWithin}
use Rattle.flow_link.specs.Lists.{every, some, below, is_empty as is_none_left}
use Rattle.flow_link.specs.Making.{load, group_size}
use Rattle.flow_link.specs.Plan.{port_count, ends_at_port, is_broadcast, is_one_taker, is_reserving, is_write_once}
use Rattle.flow_lawful.specs.Quiet.{has_served_all, has_this_fault, faulted_by_itself, rests, rests_as, held_in_all, holds_nothing as run_holds_nothing, all_completed, has_no_group, is_done_if_can, is_full_with}
use Rattle.flow_lawful.specs.RestsByParts.{OutletRests, KindRests, NodeRests, is_postponed as is_view_postponed, has_seen_end, has_to_wait, lacks_an_offer}
use Rattle.flow_link.specs.Stage.{target_stage_of}
use Rattle.flow_link.specs.Trace.{BlockTrace, Run, took_at, has_complete, has_fault, has_ended, is_faulted, is_done, block_of, link_of, link_numbers, marks_of, held_at, left_at, ports_of}
use Rattle.flow_link.specs.Views.{TargetView}
use Rattle.flow_link.proofs.KindsTell.{kind_tells}
use Rattle.flow_link.proofs.RoundsOfWalks.{some_here_below}
use Rattle.flow_block.specs.Copies.{copies_left}
use Rattle.flow_block_law.proofs.OnceHolds.{room_once}
use Rattle.flow_block_law.proofs.WrittenOnce.{message_is, weighs_written}
use Rattle.flow_link.proofs.ListTests.{never_both, passes_below, unless_done}
use Rattle.flow_intake.specs.Port.{EndState, PortState, fresh_port, fresh_end, hand_in, stage_at as port_stage, coming, has_room, is_below}
use Rattle.flow_intake.specs.Calls.{is_postponed}
use Rattle.flow_intake.specs.PortLaw.{has_ended as has_port_ended, is_in}
use Rattle.flow_intake.specs.Ended.{has_seen_completion, is_completion, fault_seen}
use Rattle.flow_outlet.specs.Outlet.{OutletState, is_empty}
use Rattle.flow_block.specs.Block.{BlockState, port_at, held_by, is_join, is_batched_join, has_ports}
use Rattle.flow_block.specs.Node.{NodeState}
use Rattle.flow_block_law.specs.NodeLaw.{NodeLaw, has_made_all, outcome_in, has_its_message, made_all_by_unit}
use Rattle.flow_block_law.specs.NodeRests.{HasNothingToDo, EndsRest, NodesRest}
use Rattle.flow_block_law.specs.NodeSeen.{IsNodeOf}
use Rattle.flow_block.specs.Peeks.{holds_nothing, is_complete as is_complete_here, is_pending, all_ended, is_written, is_off_by_unit}
use Rattle.flow_block_law.proofs.JoinsRest.{held_alike, lacks_or_full}
use Rattle.flow_block_law.proofs.NodesAreLawful.{join_is, found_below}
use Rattle.flow_block_law.proofs.NodesSeen.{join_seen, is_joining, as_ports, complete_by_port}
use Rattle.flow_group.specs.Tuple.{has_tuple}
use Rattle.flow_lawful.specs.Quiet.{has_no_row}
use Rattle.flow_link.specs.declared.kinds.BlockUnit.{BlockUnit}
use Rattle.flow_link.specs.declared.kinds.BlockUnit.TheVariants as unit
use Rattle.flow_link.specs.Kinds.{unit_of, makes_rows}
use Rattle.flow_block.specs.Planned.{in_place}
use Rattle.flow_block_law.specs.CopiesSeen.{MayCarry, CopierRests}
use Rattle.flow_block_law.proofs.CopierOf.{CopiesQuiet, copies_quiet, copier_rests, none_shared, copier_seen}
use Rattle.flow_block_law.proofs.CopiesIdle.{none_copied}
use Rattle.flow_block_law.proofs.EndsAtRest.{no_room_where, waiting_queue}
use Rattle.flow_block_law.proofs.EndsOfBlocks.{no_group_left}
use Rattle.flow_block_law.proofs.EndsTell.{postponed_back, end_back}
use Rattle.flow_block_law.proofs.FaultsSeen.{not_seen_at_ends, not_seen_at_ports}
use Rattle.flow_block_law.proofs.GoingOn.{open_goes_on}
use Rattle.flow_block_law.proofs.JournalTells.{fault_marked, none_stopped, stopped_ends, ended_by_complete, ended_is_complete}
use Rattle.flow_block_law.proofs.KindsBuilt.{has_one_port, room_shared}
use Rattle.flow_block_law.proofs.NodesSeen.{held_is, none_held, own_fault_is, load_is}
use Rattle.flow_block_law.proofs.NothingToDo.{not_pending, worked_off, none_seen, no_coming, not_finished}
use Rattle.flow_block_law.proofs.WishesTell.{no_own_move}
use Rattle.flow_block_law.proofs.PlacesOfLinks.{target_there, end_in_of}
use Rattle.flow_link.proofs.TestsTell.{every_tells, every_where, some_where}
use Rattle.flow_block.specs.Groups.{has_group_at}
use Rattle.flow_block_law.specs.GroupsLaw.{are_complete}
use Rattle.flow_block_law.proofs.GroupsTold.{group_told}
use Rattle.flow_block_law.proofs.GroupsRest.{groups_rest}
use Rattle.flow_block_law.proofs.SharersRest.{left_is, outlet_shared}
use Rattle.flow_block_law.proofs.NothingWaits.{none_same, and_true, nothing_in, ended_already, nothing_where, empty_as, waits_queued, none_below, no_first, no_group_of_none}

module _ {W : Type 0} (run : Run W) (ends : ℕ → Ends) (b : ℕ) (node : NodeState)
    (law : NodeLaw run.layout run.meaning b node)
    (part : IsNodeOf run ends b node)
    (ports : (l p : ℕ) → l < length run.layout.links → (link_of run l).target ≡ Port b p → p < length node.block.ports)
    (nothing : HasNothingToDo node) (rest : EndsRest node)
    (carries : MayCarry run ends b node) where
  abbrev own : BlockState
  own = node.block

  abbrev outs : OutletState
  outs = node.block.exits

  abbrev kind : BlockKind
  kind = (block_of run b).kind

  quiet : CopiesQuiet own
  quiet = copies_quiet run ends b node law part nothing rest (is_one_taker own.kind) refl

  marks_are : marks_of run b ≡ node.journal
  marks_are = ap (λ (t : BlockTrace). t.journal) part.trace

  of_marks : (P : List Mark → Type 0) → P node.journal → P (marks_of run b)
  of_marks P holds = subst P (sym marks_are) holds

  -- one port
  ports_are : has_ports own.kind ≡ false → ports_of run b ≡ 0 ∷ []
  ports_are alone =
      ap below (sym law.shape.port_count_is ∙ has_one_port run.layout run.meaning b own law.shape alone)

  held_count : has_ports own.kind ≡ false → held_in_all run b ≡ length (held_by own)
  held_count alone =
      ap (λ (ps : List ℕ). sum (map (λ p. length (held_at run b p)) ps)) (ports_are alone)
      ∙ ap (λ (held : List Value). 0 + length held) (held_is run ends b node law part 0) ∙ omega arith

  held_as : has_ports own.kind ≡ false → every (λ p. is_none_left (held_at run b p)) (ports_of run b) ≡ is_empty (held_by own)
  held_as alone =
      ap (λ (ps : List ℕ). every (λ p. is_none_left (held_at run b p)) ps) (ports_are alone)
      ∙ ap (λ (held : List Value). is_none_left held && true) (held_is run ends b node law part 0)
      ∙ none_same (held_by own)

  completed_as : has_ports own.kind ≡ false → all_completed run b ≡ has_complete 0 node.journal
  completed_as alone =
      ap (λ (ps : List ℕ). every (λ p. has_complete p (marks_of run b)) ps) (ports_are alone)
      ∙ ap (λ (marks : List Mark). has_complete 0 marks && true) marks_are
      ∙ and_true (has_complete 0 node.journal)

  -- a batch has no row to make
  no_group_where : has_ports own.kind ≡ false
      → (ltb (length (held_by own)) own.size && (not (has_complete 0 node.journal) || is_empty (held_by own))) ≡ true
      → has_no_group run b ≡ true
  no_group_where alone none =
      let both = and_parts (ltb (length (held_by own)) own.size)
      (not (has_complete 0 node.journal) || is_empty (held_by own)) none in
      and_from (ltb (held_in_all run b) (group_size run b)) (not (all_completed run b) || run_holds_nothing run b)
      (ap₂ ltb (held_count alone) (sym law.shape.size_is) ∙ both.0)
      (ap₂ (λ (complete none : Bool). not complete || none) (completed_as alone) (held_as alone) ∙ both.1)

  -- a batched join has a group, as its marks tell
  abbrev has_group_here : Bool
  has_group_here = has_group_at own.size (are_complete (length own.ports) node.journal) own.ports

  -- what is left of a batch's messages, of a join's, of a batched join's and of all others', when it could make nothing more
  abbrev made_all_as : BlockKind → Bool
  made_all_as k = made_all_by_unit (unit_of k) own node.journal

  -- a join that reserves holds nothing at any port, where it holds nothing at one
  by_row : (reserving : Bool) → is_reserving (block_of run b) ≡ reserving → has_no_row run b false ≡ true
      → has_no_row run b (is_reserving (block_of run b)) ≡ true
  by_row false freely none = ap (has_no_row run b) freely ∙ none
  by_row true reserving none =
      let found = found_below (λ p. is_empty (held_at run b p)) (port_count (block_of run b)) none in
      let low : found.place < length own.ports = let there = found.there in omega (arith, there, law.shape.port_count_is) in
      let empty : is_empty (port_at found.place own).waiting ≡ true =
      ap is_empty (sym (held_is run ends b node law part found.place)) ∙ found.holds in
      ap (has_no_row run b) reserving
      ∙ none_held run ends b node law part
      (every_where (λ (port : PortState). is_empty port.waiting) own.ports (fresh_port None) (λ p small.
      empty_as (port_at p own).waiting (port_at found.place own).waiting
      (held_alike run.layout run.meaning b node law reserving nothing rest
      (λ q near. no_coming run.layout run.meaning b node law nothing rest quiet q near) p found.place small low) empty))

  -- a block of its kind that could make nothing more rests
  rests_by : (k : BlockKind) → own.kind ≡ k → made_all_as k ≡ true → rests_as run k b ≡ true
  rests_by Batch is none = no_group_where (ap has_ports is) none
  rests_by Buffer is none = none_held run ends b node law part none
  rests_by Action is none = none_held run ends b node law part none
  rests_by Transform is none = none_held run ends b node law part none
  rests_by TransformMany is none = none_held run ends b node law part none
  rests_by Broadcast is none = none_held run ends b node law part none
  rests_by WriteOnce is none = none_held run ends b node law part none
  rests_by Join is none =
      by_row (is_reserving (block_of run b)) refl
      ((join_seen run ends b node law part (ap is_join is)).rests (not-true (has_tuple own.ports) none))
  rests_by BatchedJoin is none =
      let batched = ap is_batched_join is in
      let size : own.size ≡ group_size run b = law.shape.size_is in
      (groups_rest W run b node (as_ports run ends b node law part batched)).rests
      (subst (λ (n : ℕ). 0 < n) size (law.shape.some_group batched))
      (subst (λ (n : ℕ). has_group_at n (are_complete (length own.ports) node.journal) own.ports ≡ false) size
      (not-true has_group_here none))

  rests_where : has_made_all own node.journal ≡ true → rests run b ≡ true
  rests_where none =
      or_right (faulted_by_itself run b) (rests_as run kind b)
      (rests_by kind law.shape.kind_is (ap made_all_as (sym law.shape.kind_is) ∙ none))

  -- it holds nothing
  nothing_held_where : holds_nothing own.ports ≡ true → (made : BlockUnit) → unit_of own.kind ≡ made
      → made_all_by_unit made own node.journal ≡ true
  nothing_held_where none unit.Row is =
      let empty : is_empty (held_by own) ≡ true =
      every_tells (λ (port : PortState). is_empty port.waiting) own.ports (fresh_port None) 0 none law.shape.some_port in
      let held = nothing_in (held_by own) empty in
      let some = law.shape.some_size (ap makes_rows is) in
      and_from (ltb (length (held_by own)) own.size) (not (has_complete 0 node.journal) || is_empty (held_by own))
      (ap (λ (vs : List Value). ltb (length vs) own.size) held ∙ lt-ltb 0 own.size some)
      (or_right (not (has_complete 0 node.journal)) (is_empty (held_by own)) empty)
  nothing_held_where none unit.Tuple is = no_first own.ports law.shape.some_port none
  nothing_held_where none unit.Group is = no_group_of_none own.size (are_complete (length own.ports) node.journal) own.ports none
  nothing_held_where none unit.Message is = none
  nothing_held_where none unit.Copy is = none
  nothing_held_where none unit.OneCopy is = none

  -- it could make nothing more, and goes on
  made_all_where : own.stopped ≡ None → (made : BlockUnit) → unit_of own.kind ≡ made → is_off_by_unit made own ≡ true
      → made_all_by_unit made own node.journal ≡ true
  made_all_where going unit.Row is done =
      no_group_left (held_by own) own.size (leb own.size (length (held_by own)))
      (has_port_ended (port_at 0 own).refusing) (has_complete 0 node.journal) (law.shape.some_size (ap makes_rows is)) refl
      (λ unended. (open_goes_on run.layout run.meaning b own node.journal law.ends 0 law.shape.some_port unended).1) done
  made_all_where going unit.Tuple is done = done
  made_all_where going unit.Group is done =
      ap not (sym (group_told run.layout run.meaning b own node.journal law.ends going)) ∙ done
  made_all_where going unit.Message is done = done
  made_all_where going unit.Copy is done = done
  made_all_where going unit.OneCopy is done = done

  marked : (how : Outcome) → own.stopped ≡ Some how → outcome_in node.journal ≡ Some how
  marked how e = sym law.ends.stopped_is ∙ e

  worked_where : (stopped : Option Outcome) → own.stopped ≡ stopped → rests run b ≡ true
  worked_where None e =
      rests_where (made_all_where e (unit_of own.kind) refl
      (worked_off run.layout run.meaning b node law nothing rest quiet e))
  worked_where (Some Done) e = rests_where (nothing_held_where (law.ends.done_empty e).0 (unit_of own.kind) refl)
  worked_where (Some (Faulted n)) e =
      ⊎_elim
      (λ fault.
      or_left (faulted_by_itself run b) (rests_as run kind b)
      (ap (has_this_fault run b) (own_fault_is run ends b node law part n fault)
      ∙ of_marks (λ marks. has_fault n marks ≡ true) (fault_marked node.journal n (marked (Faulted n) e))))
      (λ other. rests_where other.1)
      (law.ends.faulted_by n e)

  -- it has not stopped where its marks tell of no end
  going_where : is_faulted node.journal ≡ false → is_done node.journal ≡ false → own.stopped ≡ None
  going_where f d =
      law.ends.stopped_is ∙ none_stopped node.journal f d

  -- its ports have ended where they have completed
  ended_where_told : every (λ q. has_complete q (marks_of run b)) (ports_of run b) ≡ true → all_ended own.ports ≡ true
  ended_where_told each =
      (every_where (λ (port : PortState). has_port_ended port.refusing) own.ports (fresh_port None) (λ p small.
      let complete =
      passes_below (λ q. has_complete q (marks_of run b)) (port_count (block_of run b)) p each
      (omega (arith, law.shape.port_count_is)) in
      let complete_here : has_complete p node.journal ≡ true = ap (has_complete p) (sym marks_are) ∙ complete in
      law.ends.ended_is p small
      ∙ ended_by_complete p node.journal complete_here))

  -- where all is told, it is complete
  complete_where_told : own.stopped ≡ None → is_complete run b ≡ true → (join : Bool) → is_join own.kind ≡ join
      → is_complete_here own ≡ true
  complete_where_told going e true joins =
      let ends_so : (p : ℕ) → p < length own.ports → has_port_ended (port_at p own).refusing ≡ has_complete p node.journal =
      λ p small. law.ends.ended_is p small ∙ ended_is_complete p node.journal (sym law.ends.stopped_is ∙ going) in
      rw joins
      (sym ((join_seen run ends b node law part joins).complete ends_so)
      ∙ ap (λ (k : BlockKind). is_complete_as run k b) (sym (join_is kind (is_joining run ends b node law part ∙ joins))) ∙ e)
  complete_where_told going e false joins =
      let told = sym (complete_by_port run b node law (is_joining run ends b node law part ∙ joins)) ∙ e in
      let all = every (λ q. has_complete q (marks_of run b)) (ports_of run b) in
      rw joins (⊎_elim
      (λ each. or_left (all_ended own.ports) (is_written own) (ended_where_told each))
      (λ has. or_right (all_ended own.ports) (is_written own)
      (sym (message_is run.layout run.meaning b node law) ∙ of_marks_back has))
      (or_cases all (has_its_message kind (marks_of run b)) told))
    where
      of_marks_back : has_its_message kind (marks_of run b) ≡ true → has_its_message own.kind node.journal ≡ true
      of_marks_back has =
          ap₂ has_its_message law.shape.kind_is (sym marks_are) ∙ has

  none_held_here : every (λ p. is_none_left (held_at run b p)) (ports_of run b) ≡ true → holds_nothing own.ports ≡ true
  none_held_here none =
      every_where (λ (port : PortState). is_empty port.waiting) own.ports (fresh_port None) (λ p small.
      sym (none_same (port_at p own).waiting)
      ∙ ap (λ (empty : Bool). empty && true)
      (ap is_none_left (sym (held_is run ends b node law part p))
      ∙ passes_below (λ q. is_none_left (held_at run b q)) (port_count (block_of run b)) p none
      (omega (arith, small, law.shape.port_count_is))))

  -- Its links in

  -- a link into a port over which an offer waits
  abbrev waits_over : ℕ → ℕ → Bool
  waits_over q l = ends_at_port b q (link_of run l).target && is_view_postponed (ends l).target.stage

  -- where no offer is in the queue of a port, none waits over a link into it
  none_waits_over : (q : ℕ) → q < length own.ports → (port_at q own).queue ≡ [] → some (waits_over q) (link_numbers run) ≡ false
  none_waits_over q low none =
      none_below (waits_over q) (length run.layout.links) (λ l small waits.
      let both = and_parts (ends_at_port b q (link_of run l).target) (is_view_postponed (ends l).target.stage) waits in
      let to = target_there b q (link_of run l).target both.0 in
      let port = port_at q own in
      let k = in_place run.layout b q l in
      let there = (end_in_of run.layout run.meaning b own law.shape q l low small to).there in
      let seen = ap (λ (view : TargetView Value). view.stage) (part.targets l q small to) in
      let waits = postponed_back (port_stage k port) (hand_in k port.ends) (ap is_view_postponed (sym seen) ∙ both.1) in
      let queued = ((law.ports q low).each k there).queued ∙ waits_queued (port_stage k port) waits in
      let wrong : false ≡ true = sym (ap (is_in k) none) ∙ queued in
      cc)

  module _ (l p : ℕ) (small : l < length run.layout.links) (to : (link_of run l).target ≡ Port b p) where
    abbrev port : PortState
    port = port_at p node.block

    abbrev in_at : ℕ
    in_at = in_place run.layout b p l

    port_there : p < length own.ports
    port_there = ports l p small to

    end_there : in_at < length port.ends
    end_there = (end_in_of run.layout run.meaning b own law.shape p l port_there small to).there

    target_is : (ends l).target.stage ≡ target_stage_of (port_stage in_at port) (hand_in in_at port.ends)
    target_is = ap (λ (view : TargetView Value). view.stage) (part.targets l p small to)

    none_waits_here : is_write_once own.kind ≡ true → length port.waiting ≡ 0
    none_waits_here once =
        let alone = has_one_port run.layout run.meaning b own law.shape (kind_tells is_one_taker false has_ports false refl own.kind (kind_tells is_write_once true is_one_taker false refl own.kind once)) in
        let first : 0 ≡ p = omega (arith, alone, port_there) in
        ap (λ (q : ℕ). length (port_at q own).waiting) (sym first) ∙ ap (λ (held : List Value). length held) (law.none_held once)

    full_at : (capacity : Option ℕ) (taken more : ℕ) → more ≡ 0 → IsWithin capacity (taken + more)
        → is_below (taken + more) capacity ≡ false
        → (is_some capacity ≡ true) × (is_full_with run capacity taken ≡ true)
    full_at None taken more none within full = absurd (cc)
    full_at (Some capacity) taken more none within full =
        let past : capacity ≤ taken + more = ltb-false (taken + more) capacity full in
        (refl, eq-eqb taken capacity (omega arith))

    -- no offer waits at what took its one message: its port has completed
    never_waits : is_write_once own.kind ≡ true → port.refusing ≡ None → has_room port ≡ false → ⊥
    never_waits once open_port full =
        let planned = law.shape.ports p port_there in
        let order = law.ports p port_there in
        let room = room_once kind (block_of run b).capacity (ap is_write_once (sym law.shape.kind_is) ∙ once) in
        let none = no_coming run.layout run.meaning b node law nothing rest quiet p port_there in
        let here = full_at port.capacity port.load (coming port) none order.room full in
        let taken = eqb-true port.load 1
        (subst (λ (capacity : Option ℕ). is_full_with run capacity port.load ≡ true) (planned.capacity ∙ room) here.1) in
        let grouped = kind_tells is_one_taker false is_batched_join false refl own.kind (kind_tells is_write_once true is_one_taker false refl own.kind once) in
        let counts = (law.load grouped).load p port_there (ap is_some room) in
        let empty = none_waits_here once in
        let weights = (none_shared run ends b node law part (kind_tells is_write_once true is_one_taker false refl own.kind once)).1 in
        let written = weighs_written run.layout run.meaning b node law once (omega (arith, taken, counts, empty, weights)) in
        let ended =
        ended_already (has_port_ended port.refusing) (coming port == 0) (has_seen_completion port.ends || is_written own)
        (eq-eqb (coming port) 0 none) (or_right (has_seen_completion port.ends) (is_written own) written)
        (nothing.completes p port_there) in
        never_both (has_port_ended port.refusing) ended (ap has_port_ended open_port)

    -- an offer waits where there is no room
    full_so : is_postponed (port_stage in_at port) ≡ true → has_room port ≡ false → has_to_wait run ends b p ≡ true
    full_so waits full =
        let planned = law.shape.ports p port_there in
        let order = law.ports p port_there in
        let here =
        full_at port.capacity port.load (coming port)
        (no_coming run.layout run.meaning b node law nothing rest quiet p port_there) order.room full in
        let open_port =
        (waiting_queue in_at port (port_stage in_at port) waits (no_own_move p in_at node (nothing.ins p in_at port_there end_there))).0 in
        let many = false_from_ne_true (is_write_once own.kind) (λ once. never_waits once open_port full) in
        let capacity : port.capacity ≡ (block_of run b).capacity =
        planned.capacity ∙ room_shared kind (block_of run b).capacity (ap is_write_once (sym law.shape.kind_is) ∙ many) in
        let load_here : port.load ≡ load run b p =
        sym (load_is run ends b node law part p port_there (ap is_some (sym capacity) ∙ here.0)) in
        or_left (is_full_with run (block_of run b).capacity (load run b p))
        (is_reserving (block_of run b) && lacks_an_offer run ends b)
        (ap₂ (is_full_with run) (sym capacity) (sym load_here) ∙ here.1)

    -- or, at a join that reserves, where another port lacks an offer
    lacks_so : is_reserving (block_of run b) ≡ true → (q : ℕ) → q < length own.ports → (port_at q own).queue ≡ []
        → has_to_wait run ends b p ≡ true
    lacks_so reserving q low none =
        or_right (is_full_with run (block_of run b).capacity (load run b p)) (is_reserving (block_of run b) && lacks_an_offer run ends b)
        (and_from (is_reserving (block_of run b)) (lacks_an_offer run ends b) reserving
        (some_here_below (λ r. not (some (waits_over r) (link_numbers run))) (port_count (block_of run b)) q
        (omega (arith, low, law.shape.port_count_is))
        (ap not (none_waits_over q low none))))

    put_off_by : (reserving : Bool) → is_reserving (block_of run b) ≡ reserving → is_postponed (port_stage in_at port) ≡ true
        → has_to_wait run ends b p ≡ true
    put_off_by false freely waits =
        full_so waits
        (no_room_where (facts_in run.layout) (length (took_at p node.journal)) port in_at (law.ports p port_there)
        ((law.shape.ports p port_there).reserves_is ∙ freely)
        (λ k near. rest.ins p k port_there near) (λ k near. no_own_move p k node (nothing.ins p k port_there near)) end_there waits)
    put_off_by true reserving waits =
        elim (lacks_or_full run.layout run.meaning b node law reserving nothing rest
        (λ q low. no_coming run.layout run.meaning b node law nothing rest quiet q low) p in_at port_there end_there) [
          | inl lacks ↦ lacks_so reserving lacks.0 lacks.1 lacks.2
          | inr full ↦ full_so waits full
        ]

    put_off_so : is_view_postponed (ends l).target.stage ≡ true → has_to_wait run ends b p ≡ true
    put_off_so e =
        put_off_by (is_reserving (block_of run b)) refl
        (postponed_back (port_stage in_at port) (hand_in in_at port.ends) (ap is_view_postponed (sym target_is) ∙ e))

    completed : is_completion (port_stage in_at port) ≡ true → has_ended p (marks_of run b) ≡ true
    completed e =
        let seen : has_seen_completion port.ends ≡ true =
        some_where (λ (end : EndState). is_completion end.stage) port.ends (fresh_end 0) in_at end_there e in
        let none : (coming port == 0) ≡ true =
        eq-eqb (coming port) 0 (no_coming run.layout run.meaning b node law nothing rest quiet p port_there) in
        let ended =
        ended_already (has_port_ended port.refusing) (coming port == 0) (has_seen_completion port.ends || is_written own) none
        (or_left (has_seen_completion port.ends) (is_written own) seen) (nothing.completes p port_there) in
        ap (has_ended p) marks_are ∙ sym (law.ends.ended_is p port_there) ∙ ended

    faulted : (stopped : Option Outcome) → own.stopped ≡ stopped → is_some (fault_seen (port_stage in_at port)) ≡ true
        → has_ended p (marks_of run b) ≡ true
    faulted None e seen =
        let none =
        not_seen_at_ports own.ports p (none_seen run.layout run.meaning b node law nothing rest quiet e) port_there in
        never_both (is_some (fault_seen (port_stage in_at port))) seen
        (ap is_some (not_seen_at_ends port.ends in_at none end_there))
    faulted (Some how) e seen =
        of_marks (λ marks. has_ended p marks ≡ true) (stopped_ends p node.journal (ap is_some (marked how e)))

    ended_port : has_seen_end (ends l).target.stage ≡ true → has_ended p (marks_of run b) ≡ true
    ended_port e =
        ⊎_elim completed (faulted own.stopped refl)
        (end_back (port_stage in_at port) (hand_in in_at port.ends) (ap has_seen_end (sym target_is) ∙ e))

  served_shared : is_one_taker own.kind ≡ true → has_served_all run b ≡ true
  served_shared shares =
      or_left (not (is_broadcast kind) || is_faulted (marks_of run b)) (is_none_left (left_at run b))
      (or_left (not (is_broadcast kind)) (is_faulted (marks_of run b))
      (ap (λ (k : BlockKind). not (is_broadcast k)) (sym law.shape.kind_is) ∙ ap not (kind_tells is_one_taker true is_broadcast false refl own.kind shares)))

  -- Its links out, whether it shares its messages out or copies them

  rests_copied : is_one_taker own.kind ≡ false → CopierRests run ends b node
  rests_copied copying = copier_rests run ends b node law part copying nothing rest

  left_gone : (sharing : Bool) → is_one_taker own.kind ≡ sharing → is_none_left (left_at run b) ≡ true → is_empty outs.left ≡ true
  left_gone true shares none = ap is_empty (sym (left_is run ends b node law part ports nothing rest carries shares) ∙ nothing_where (left_at run b) none)
  left_gone false copying none = ap is_empty (none_shared run ends b node law part copying).0

  copied_gone : (sharing : Bool) → is_one_taker own.kind ≡ sharing → is_none_left (left_at run b) ≡ true
      → copies_left own.copies ≡ 0
  copied_gone true shares none = none_copied run.layout run.meaning b node law shares
  copied_gone false copying none =
      sym (copier_seen run ends b node law part copying).left
      ∙ ap (λ (left : List Value). length left)
      (sym (ap (λ (t : BlockTrace). t.left) part.trace) ∙ nothing_where (left_at run b) none)

  served_so : (sharing : Bool) → is_one_taker own.kind ≡ sharing → has_served_all run b ≡ true
  served_so true shares = served_shared shares
  served_so false copying = (rests_copied copying).served

  calm : own.stopped ≡ None → is_pending own ≡ false
  calm going = not_pending run.layout run.meaning b node law nothing rest quiet going

  outlet_rests : (sharing : Bool) → is_one_taker own.kind ≡ sharing → OutletRests run ends b
  outlet_rests true shares = outlet_shared run ends b node law part ports nothing rest carries shares
  outlet_rests false copying = (rests_copied copying).outlet calm carries

  done_so : is_done_if_can run b ≡ true
  done_so =
      unless_done (is_faulted (marks_of run b)) (is_done (marks_of run b)) (is_complete run b) (has_nothing run b)
      (λ f d complete none.
      let going = going_where (ap is_faulted (sym marks_are) ∙ f) (ap is_done (sym marks_are) ∙ d) in
      let parts =
      and_parts (every (λ p. is_none_left (held_at run b p)) (ports_of run b)) (is_none_left (left_at run b)) none in
      not_finished run.layout run.meaning b node law nothing rest quiet going
      (complete_where_told going complete (is_join own.kind) refl) (none_held_here parts.0)
      (left_gone (is_one_taker own.kind) refl parts.1) (copied_gone (is_one_taker own.kind) refl parts.1))

  kind_rests : KindRests run ends b
  kind_rests = record {
    worked = worked_where own.stopped refl;
    done = done_so;
    served = served_so (is_one_taker own.kind) refl;
  }

  node_rests : NodeRests run ends b
  node_rests = record {
    kind = kind_rests;
    outlet = outlet_rests (is_one_taker own.kind) refl;
    ports = λ p. record {
      put_off = λ l small to. put_off_so l p small to;
      ended = λ l small to. ended_port l p small to;
    };
  }

pub nodes_rest : (W : Type 0) → NodesRest W
nodes_rest W run ends b node small law part ports nothing rest carries =
    node_rests run ends b node law part ports nothing rest carries
