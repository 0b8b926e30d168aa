-- A block that fails, or that has nothing left to do, says how it ended.
use Rattle.std.proofs.Common.{◌≡◌, ℕ, ◌<◌, leb, ltb, cond, not, ◌&&◌, ◌||◌, Bool, true, false, List, [], ◌∷◌, ◌++◌, length, map, Option, Some, None, Result, refl, ap, sym, ◌∙◌, inl, inr, ⊎_elim, eqb-true, ap₂}
use Rattle.std.proofs.lemmas.Bool.{or_cases, or_left, or_right}
use Rattle.std.proofs.lemmas.List.{length-map}
use Rattle.flow_value.specs.declared.value.Value.{Value}
use Rattle.flow_link.specs.declared.draft.BlockKind.{BlockKind}
use Rattle.flow_link.specs.declared.trace.Mark.{Mark}
use Rattle.flow_link.specs.declared.trace.Mark.TheVariants.{Fault, Done}
use Rattle.flow_link.specs.declared.trace.Outcome.{Outcome}
use Rattle.flow_link.specs.Layout.{Layout}
use Rattle.flow_link.specs.Lists.{every, below}
use Rattle.flow_link.specs.Trace.{has_complete, has_ended, is_complete_mark, is_fault_mark, is_any_fault_mark, is_done_mark}
use Rattle.flow_link.proofs.ListTests.{every_below}
use Rattle.flow_link.proofs.OneMoreMark.{some_of_more, some_no_more, took_no_more}
use Rattle.flow_intake.specs.Port.{PortState, fresh_port}
use Rattle.flow_intake.specs.PortLaw.{has_ended as has_port_ended}
use Rattle.flow_intake.specs.Calls.{port_closes}
use Rattle.flow_outlet.specs.Outlet.{is_empty}
use Rattle.flow_block.specs.Block.{BlockState, port_in, port_at, held_by, stops_by, is_join}
use Rattle.flow_block_law.specs.NodeLaw.{ShapeLaw, EndsLaw, have_completed, has_its_message, made_all_by_unit}
use Rattle.flow_block.specs.Peeks.{fault_at_ports, holds_nothing, is_worked_off, next_fault, may_finish, all_ended, has_group_of_ports, is_written, is_off_by_unit}
use Rattle.flow_link.specs.declared.kinds.BlockUnit.{BlockUnit}
use Rattle.flow_link.specs.Kinds.{unit_of, makes_rows}
use Rattle.flow_block_law.proofs.FaultsSeen.{sees_at, seen_at_ports, cause_tells}
use Rattle.flow_block_law.proofs.GoingOn.{open_goes_on, may_fault_tells, may_finish_tells}
use Rattle.flow_block_law.proofs.JournalTells.{goes_on, not_faulted_so, outcome_more, complete_where, ended_by_fault, ended_by_done}
use Rattle.flow_group.specs.Tuple.{is_join_complete}
use Rattle.flow_block_law.proofs.JoinsEnd.{join_has_ended}
use Rattle.flow_block_law.proofs.PortEnds.{PortEnds, port_closed, completes_by, completes_more}
use Rattle.flow_block.proofs.PortsChange.{kept_at_all, each_after_all}
use Rattle.flow_link.proofs.TestsTell.{every_tells, some_last, some_map, every_map}
use Rattle.flow_block.proofs.NothingLeft.{none_left}
use Rattle.flow_block_law.proofs.Joins.{tuple_at_all}
use Rattle.flow_block_law.proofs.GroupPorts.{waiting_at_all}
use Rattle.flow_block_law.proofs.GroupsTold.{group_told}
use Rattle.flow_block.specs.Groups.{has_group_at}
use Rattle.flow_block_law.specs.GroupsLaw.{are_complete}
use Rattle.flow_block_law.proofs.EndsOfBlocks.{every_same, same_completed, no_group_left, each_port, both}
use Rattle.flow_link.proofs.RoundsOfWalks.{some_here_below}
use Rattle.flow_link.specs.declared.trace.Outcome.TheVariants as outcome
use Rattle.flow_link.specs.declared.kinds.BlockUnit.TheVariants as unit

module _ {W : Type 0} (layout : Layout W) (meaning : ℕ → Value → Result (List Value) ℕ) (b : ℕ) where
  abbrev Ends : BlockState → List Mark → Type 0
  Ends block journal = EndsLaw layout meaning b block journal

  -- what the law says of one port
  abbrev PortEndsBy : BlockKind → Option ℕ → List Mark → ℕ → PortState → Type 0
  PortEndsBy kind fault journal p port =
      PortEnds fault (has_ended p journal) (completes_by kind p journal) port.refusing port.ends

  -- all its ports close
  ports_close : (block : BlockState) (journal later : List Mark) → Ends block journal
      → ((q : ℕ) → has_ended q later ≡ true)
      → ((q : ℕ) → completes_by block.kind q later ≡ true → completes_by block.kind q journal ≡ true)
      → (q : ℕ) → q < length (map port_closes block.ports)
      → PortEndsBy block.kind block.fault later q (port_in (map port_closes block.ports) q)
  ports_close block journal later law ended complete =
      each_after_all (PortEndsBy block.kind block.fault later) port_closes block.ports
      (λ q small. port_closed block.fault (has_ended q journal) (completes_by block.kind q journal) (has_ended q later)
      (completes_by block.kind q later) (port_in block.ports q).refusing (port_in block.ports q).ends
      (each_port layout meaning b block journal law q small) (ended q)
      (λ is. (each_port layout meaning b block journal law q small).complete_cause (complete q is)))

  -- a port that closes holds what it held
  closed_holds : (block : BlockState) → holds_nothing (map port_closes block.ports) ≡ holds_nothing block.ports
  closed_holds block = every_map (λ (q : PortState). is_empty q.waiting) port_closes block.ports (λ q. refl)

  -- it could make nothing more, and stops
  made_all_by : (block : BlockState) (journal later : List Mark) → ShapeLaw layout meaning b block → Ends block journal
      → block.stopped ≡ None → (how : Outcome) → ((p : ℕ) → has_complete p later ≡ has_complete p journal)
      → (made : BlockUnit) → unit_of block.kind ≡ made → is_off_by_unit made block ≡ true
      → made_all_by_unit made (stops_by how block) later ≡ true
  made_all_by block journal later shape law going how same unit.Row is done =
      let there = shape.some_port in
      let held = kept_at_all (λ (port : PortState). port.waiting) port_closes block.ports 0 (λ port. refl) in
      let left =
      no_group_left (held_by block) block.size (leb block.size (length (held_by block)))
      (has_port_ended (port_at 0 block).refusing) (has_complete 0 journal) (shape.some_size (ap makes_rows is)) refl
      (λ unended. (open_goes_on layout meaning b block journal law 0 there unended).1) done in
      rw (held, same 0) left
  made_all_by block journal later shape law going how same unit.Tuple is done =
      rw (tuple_at_all port_closes block.ports (λ port. refl)) done
  made_all_by block journal later shape law going how same unit.Group is done =
      let closed = map port_closes block.ports in
      let complete : are_complete (length closed) later ≡ are_complete (length block.ports) journal =
      ap (λ (count : ℕ). are_complete count later) (length-map block.ports port_closes)
      ∙ every_same (λ p. has_complete p later) (λ p. has_complete p journal) (below (length block.ports)) same in
      let group : has_group_at block.size (are_complete (length closed) later) closed ≡ has_group_of_ports block =
      ap₂ (λ (many : ℕ) (ended : Bool). ltb 0 many && (leb block.size many || ended))
      (waiting_at_all port_closes block.ports (λ port. refl)) complete
      ∙ sym (group_told layout meaning b block journal law going) in
      ap not group ∙ done
  made_all_by block journal later shape law going how same unit.Message is done = closed_holds block ∙ done
  made_all_by block journal later shape law going how same unit.Copy is done = closed_holds block ∙ done
  made_all_by block journal later shape law going how same unit.OneCopy is done = closed_holds block ∙ done

  pub faulted : (block : BlockState) (journal : List Mark) → ShapeLaw layout meaning b block → Ends block journal
      → (number : ℕ) → next_fault block ≡ Some number
      → Ends (stops_by (outcome.Faulted number) block) (journal ++ Fault number ∷ [])
  faulted block journal shape law number may =
      let tests = may_fault_tells block number may in
      let none = tests.going in
      let going = sym law.stopped_is ∙ none in
      let mark = Fault number in
      let later = journal ++ mark ∷ [] in
      let cause = cause_tells block.fault (is_worked_off block) (fault_at_ports block.ports) number tests.cause in
      let closed = map port_closes block.ports in
      both layout meaning b (stops_by (outcome.Faulted number) block) later
      (ports_close block journal later law
      (λ q. ended_by_fault q later (some_last is_any_fault_mark journal mark refl))
      (λ q. completes_more block.kind q journal mark refl))
      (record {
        stopped_is = sym (outcome_more journal mark going);
        at_rest = λ is. tests.rest;
        done_empty = λ is. absurd (cc);
        done_complete = λ is.
            let before = some_no_more is_done_mark journal mark refl in
            let never = sym (goes_on journal going).1 ∙ sym before ∙ is in
            absurd (cc);
        fault_cause = λ other is.
            ⊎_elim
            (λ before. let never = sym (not_faulted_so other journal going) ∙ before in absurd (cc))
            (λ last.
            let same = eqb-true number other last in
            ⊎_elim (λ own. inl (own ∙ ap Some same))
            (λ seen. inr (some_map (λ (q : PortState). sees_at other q) port_closes block.ports (λ q. refl)
            ∙ seen_at_ports other block.ports (seen.seen_is ∙ ap Some same)))
            cause)
            (some_of_more (is_fault_mark other) journal mark is);
        faulted_by = λ other is.
            let same : number ≡ other = cc in
            ⊎_elim (λ own. inl (own ∙ ap Some same)) (λ seen. inr (
              seen.none,
              made_all_by block journal later shape law none (outcome.Faulted number)
                  (λ p. some_no_more (is_complete_mark p) journal mark refl) (unit_of block.kind) refl seen.empty,
            )) cause;
      })

  -- where it is complete and holds nothing, the marks say so
  completed_so : (block : BlockState) (journal : List Mark) → 0 < length block.ports → Ends block journal → block.stopped ≡ None
      → (is_written block ≡ true → has_its_message block.kind journal ≡ true)
      → holds_nothing block.ports ≡ true → (join : Bool) → is_join block.kind ≡ join
      → cond join (is_join_complete block.ports) (all_ended block.ports || is_written block) ≡ true
      → have_completed block.kind (length block.ports) journal ≡ true
  completed_so block journal there law none written empty true joins complete =
      let going = sym law.stopped_is ∙ none in
      let first = join_has_ended block.ports there complete in
      rw joins (some_here_below (λ p. has_complete p journal) (length block.ports) first.place first.there
      (complete_where first.place journal going (sym (law.ended_is first.place first.there) ∙ first.ended)))
  completed_so block journal there law none written empty false joins complete =
      let going = sym law.stopped_is ∙ none in
      let all = every (λ p. has_complete p journal) (below (length block.ports)) in
      rw joins (⊎_elim
      (λ ended. or_left all (has_its_message block.kind journal) (every_below (λ p. has_complete p journal) (length block.ports)
      (λ p small.
      complete_where p journal going (sym (law.ended_is p small)
      ∙ every_tells (λ (port : PortState). has_port_ended port.refusing) block.ports (fresh_port None) p ended small))))
      (λ has. or_right all (has_its_message block.kind journal) (written has))
      (or_cases (all_ended block.ports) (is_written block) complete))

  pub finished : (block : BlockState) (journal : List Mark) → 0 < length block.ports → Ends block journal → may_finish block ≡ true
      → (is_written block ≡ true → has_its_message block.kind journal ≡ true)
      → Ends (stops_by outcome.Done block) (journal ++ Done ∷ [])
  finished block journal there law may written =
      let tests = may_finish_tells block may in
      let none = tests.going in
      let going = sym law.stopped_is ∙ none in
      let later = journal ++ Done ∷ [] in
      let closed = map port_closes block.ports in
      let holds = every_map (λ (q : PortState). is_empty q.waiting) port_closes block.ports (λ q. refl) in
      both layout meaning b (stops_by outcome.Done block) later
      (ports_close block journal later law
      (λ q. ended_by_done q later (some_last is_done_mark journal Done refl))
      (λ q. completes_more block.kind q journal Done refl))
      (record {
        stopped_is = sym (outcome_more journal Done going);
        at_rest = λ is. tests.rest;
        done_empty = λ is. (holds ∙ tests.empty, none_left block.exits.left tests.none_left);
        done_complete = λ is.
            rw (length-map block.ports port_closes)
            (same_completed block.kind (length block.ports) journal later
            (λ p. some_no_more (is_complete_mark p) journal Done refl) (took_no_more journal Done refl)
            (completed_so block journal there law none written tests.empty (is_join block.kind) refl tests.ended));
        fault_cause = λ number is.
            let before = some_no_more (is_fault_mark number) journal Done refl in
            let never = sym (not_faulted_so number journal going) ∙ sym before ∙ is in
            absurd (cc);
        faulted_by = λ number is. absurd (cc);
      })
