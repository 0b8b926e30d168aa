-- Each call keeps what a node says of how it ends.
use Rattle.std.proofs.Common.{◌≡◌, ℕ, ◌==◌, Bool, true, false, List, [], ◌∷◌, ◌++◌, set, map, Option, Some, None, is_some, Result, Ok, Err, refl, sym, ◌∙◌, eq-eqb, subst, ◌-◌}
use Rattle.std.proofs.lemmas.Bool.{ne_eqb, and_parts, false_from_ne_true}
use Rattle.std.proofs.lemmas.List.{length-map}
use Rattle.flow_value.specs.declared.value.Value.{Value}
use Rattle.flow_link.specs.declared.draft.BlockKind.{BlockKind}
use Rattle.flow_link.specs.declared.draft.BlockKind.TheVariants.{Buffer, Action}
use Rattle.flow_link.specs.declared.stage.SourceStage.TheVariants as source
use Rattle.flow_link.specs.declared.stage.TargetStage.TheVariants.{Free, Postponed, Accepted, Consuming, Asking, Claiming, Hand}
use Rattle.flow_link.specs.declared.trace.Mark.{Mark}
use Rattle.flow_link.specs.declared.trace.Mark.TheVariants.{Took, Gave, Complete}
use Rattle.flow_link.specs.Layout.{Layout}
use Rattle.flow_link.specs.Stage.{source_looks, target_looks}
use Rattle.flow_link.specs.Trace.{has_complete, has_ended, is_complete_mark, is_any_fault_mark, is_done_mark}
use Rattle.flow_link.proofs.KindsTell.{kind_tells}
use Rattle.flow_link.proofs.ListTests.{never_both}
use Rattle.flow_intake.specs.Port.{PortState, stage_at as port_stage, end_in, hand_in, is_offer, is_hand, is_holding}
use Rattle.flow_intake.specs.Calls.{message_of, is_offered, is_posted, is_postponed, is_arrived, may_be_refused, first_of, refused_by, wants, turns_down, postpones, refuses, consumes, asks, claims, releases, opens, closes, looks as port_looks, takes_next, gives_room, port_closes, port_fails}
use Rattle.flow_intake.proofs.CountsOfEnds.{hand_comes}
use Rattle.flow_outlet.specs.Outlet.{OutletState, is_empty, head_of, gives, prepares, offers, holds, denies, withdraws, ends_link, looks as exit_looks, end_at, stage_at}
use Rattle.flow_block.specs.Copies.{CopyCall, after_copy, copies_weight}
use Rattle.flow_block_law.proofs.CopiesIdle.{copies_at}
use Rattle.flow_block.specs.Block.{BlockState, port_in, port_at, with_port, with_jobs, held_by, made_of, fails, puts_out, yields, keeps_results, makes_of, takes_group, makes_row, gives_out, makes_tuple, copies_next, with_copies}
use Rattle.flow_block.specs.Jobs.{JobsState, begins, works_off}
use Rattle.flow_block.specs.Node.{NodeState, NodeCall, gives_from, in_link_at, out_link_at, copies_by, order_in, holds_in}
use Rattle.flow_block_law.specs.NodeKeeps.{EndsKept, MayCall, InAt, MayGive, MayCompletePort, after_call, MayCopy}
use Rattle.flow_block_law.specs.NodeLaw.{NodeLaw, EndsLaw, has_made_all, stops_at, outcome_in, has_its_message}
use Rattle.flow_block.specs.Peeks.{is_written}
use Rattle.flow_link.specs.Plan.{is_write_once, is_one_taker}
use Rattle.flow_intake.specs.Ended.{has_seen_completion}
use Rattle.flow_block.proofs.CopiesTaken.{taken_in_keeps, held_stopped}
use Rattle.flow_block_law.proofs.WrittenOnce.{written_tells}
use Rattle.flow_spread.specs.Spread.{SpreadState, link_at, puts}
use Rattle.flow_block_law.proofs.CopierHolds.{copy_goes_on}
use Rattle.flow_block_law.proofs.CopiesLeave.{marks_by_copy, held_by_copy}
use Rattle.flow_block.specs.Planned.{block_makes}
use Rattle.flow_block_law.proofs.GoingOn.{open_goes_on, away_goes_on, rest_stays, wanted_away, asked_away, wish_away, waiting_away, look_stays_home, may_work_tells, may_complete_tells}
use Rattle.flow_block_law.proofs.JournalTells.{outcome_more, ended_no_more, ended_by_complete}
use Rattle.flow_block_law.proofs.KindsBuilt.{makes_by, next_by}
use Rattle.flow_block_law.proofs.WishesTell.{asks_so, claims_so, releases_so}
use Rattle.flow_block_law.proofs.PortEnds.{PortEnds, end_moves, port_closed, port_failed, unseen_goes, refusal_unseen, refuses_so, look_goes, look_numbered, completes_by, completes_tells, unwritten_before, completes_more, fewer_complete, seen_unless}
use Rattle.flow_block.proofs.PortsChange.{each_after_one, each_after_all}
use Rattle.flow_block.proofs.RoomBack.{back_at, each_after_back}
use Rattle.flow_link.proofs.TestsTell.{some_last, every_map}
use Rattle.flow_block_law.proofs.Joins.{tuple_at_all}
use Rattle.flow_block_law.proofs.GroupPorts.{each_after_group, waiting_at_all}
use Rattle.flow_block.specs.Groups.{makes_group}
use Rattle.flow_block_law.proofs.EndsOfBlocks.{BlockEnds, made_all_same, group_as, going_ends, ports_move, each_port, whole, both, moves_in, exits_go, exits_going}
use Rattle.flow_block_law.proofs.EndsReached.{faulted, finished}

-- The block

module _ {W : Type 0} (layout : Layout W) (meaning : ℕ → Value → Result (List Value) ℕ) (b : ℕ) where
  abbrev Ends : BlockState → List Mark → Type 0
  Ends block journal = EndsLaw layout meaning b block journal

  -- what the law says of one port
  abbrev PortEndsBy : BlockKind → Option ℕ → List Mark → ℕ → PortState → Type 0
  PortEndsBy kind fault journal p port =
      PortEnds fault (has_ended p journal) (completes_by kind p journal) port.refusing port.ends

  -- a mark that ends nothing
  record EndsNothing (mark : Mark) : Type 0 where
    complete : (p : ℕ) → is_complete_mark p mark ≡ false
    fault : is_any_fault_mark mark ≡ false
    done : is_done_mark mark ≡ false
    goes_on : stops_at mark ≡ None

  port_marked : (kind : BlockKind) (fault : Option ℕ) (journal : List Mark) (mark : Mark) → EndsNothing mark
      → (p : ℕ) (port : PortState) → PortEndsBy kind fault journal p port → PortEndsBy kind fault (journal ++ mark ∷ []) p port
  port_marked kind fault journal mark nothing p port law =
      rw (ended_no_more p journal mark (nothing.complete p) nothing.fault nothing.done)
      (fewer_complete fault (has_ended p journal) (completes_by kind p journal) (completes_by kind p (journal ++ mark ∷ []))
      port.refusing port.ends (completes_more kind p journal mark (nothing.complete p)) law)

  going_marked : (journal : List Mark) (mark : Mark) → EndsNothing mark → outcome_in journal ≡ None
      → outcome_in (journal ++ mark ∷ []) ≡ None
  going_marked journal mark nothing going = outcome_more journal mark going ∙ rw nothing.goes_on refl

  -- a message that is in hand comes to a block that has not stopped
  still_going : (node : NodeState) → NodeLaw layout meaning b node → (p k : ℕ) → InAt is_hand p k node → node.block.stopped ≡ None
  still_going node law p k at =
      let comes = hand_comes (port_stage k (port_at p node.block)) at.stands in
      let goes = open_goes_on layout meaning b node.block node.journal law.ends p at.port
      (((law.ports p at.port).each k at.place).coming comes) in
      law.ends.stopped_is ∙ goes.0

  taken_in : (node : NodeState) → NodeLaw layout meaning b node → (p k : ℕ) (value : Option Value)
      → InAt is_hand p k node
      → Ends (holds_in p k value node).block (holds_in p k value node).journal
  taken_in node law p k None at = law.ends
  taken_in node law p k (Some value) at =
      let block = node.block in
      let old = port_at p block in
      let port = closes k value old in
      let open_port = ((law.ports p at.port).each k at.place).coming (hand_comes (port_stage k old) at.stands) in
      let going = (open_goes_on layout meaning b block node.journal law.ends p at.port open_port).0 in
      let mark = Took p (in_link_at p k node) value in
      let nothing : EndsNothing mark = record { complete = λ q. refl; fault = refl; done = refl; goes_on = refl } in
      let none = law.ends.stopped_is ∙ going in
      let goes =
      unseen_goes block.fault old.refusing (port_stage k old) Free is_hand (λ how. refl) at.stands refl
      (λ why is. absurd (cc)) in
      both layout meaning b (record block { ports = set block.ports p port }) (node.journal ++ mark ∷ [])
      (each_after_one (PortEndsBy block.kind block.fault (node.journal ++ mark ∷ [])) block.ports p port
      (λ there. port_marked block.kind block.fault node.journal mark nothing p port
      (end_moves block.fault (has_ended p node.journal) (completes_by block.kind p node.journal) old.refusing old.ends k
      (record (end_in k old.ends) { stage = Free; hand = None })
      (each_port layout meaning b block node.journal law.ends p at.port) goes))
      (λ q there other. port_marked block.kind block.fault node.journal mark nothing q (port_in block.ports q)
      (each_port layout meaning b block node.journal law.ends q there)))
      (going_ends block.kind _ (set block.ports p port) block.exits block.fault block.stopped (node.journal ++ mark ∷ []) none
      (going_marked node.journal mark nothing going))

  given_out : (node : NodeState) → NodeLaw layout meaning b node → (k : ℕ) (value : Option Value) → MayGive k node
      → Ends (gives_from k value node).block (gives_from k value node).journal
  given_out node law k None may = law.ends
  given_out node law k (Some value) may =
      let block = node.block in
      let away = wanted_away block.exits.next (is_some block.exits.offer) (stage_at block.exits k) may.wanted in
      let none = away_goes_on layout meaning b block node.journal law.ends k away in
      let mark = Gave (out_link_at k node) value in
      let nothing : EndsNothing mark = record { complete = λ q. refl; fault = refl; done = refl; goes_on = refl } in
      both layout meaning b (gives_out k block) (node.journal ++ mark ∷ [])
      (each_after_back (gives k block.exits) block.copies block.kind (head_of block.exits)
      (PortEndsBy block.kind block.fault (node.journal ++ mark ∷ [])) block.ports
      (λ q there.
      let port = port_in block.ports q in
      port_marked block.kind block.fault node.journal mark nothing q
      (gives_room (back_at (gives k block.exits) block.copies block.kind (head_of block.exits) q port) port)
      (each_port layout meaning b block node.journal law.ends q there)))
      (going_ends block.kind _ (gives_out k block).ports (gives_out k block).exits block.fault block.stopped
      (node.journal ++ mark ∷ []) none
      (going_marked node.journal mark nothing (sym law.ends.stopped_is ∙ none)))

  -- it works on a message
  works_on : (block : BlockState) (journal : List Mark) → Ends block journal
      → (change : PortState → PortState) (exits : OutletState) (jobs : JobsState) (recorded : List Value)
      → (change (port_at 0 block)).refusing ≡ (port_at 0 block).refusing
      → (change (port_at 0 block)).ends ≡ (port_at 0 block).ends → block.stopped ≡ None
      → Ends (record (with_port 0 change block) { exits = exits; jobs = jobs; recorded = recorded }) journal
  works_on block journal law change exits jobs recorded refusing ends none =
      both layout meaning b (record (with_port 0 change block) { exits = exits; jobs = jobs; recorded = recorded }) journal
      (each_after_one (PortEndsBy block.kind block.fault journal) block.ports 0 (change (port_at 0 block))
      (λ there. rw (refusing, ends) (each_port layout meaning b block journal law 0 there))
      (λ q there other. each_port layout meaning b block journal law q there))
      (going_ends block.kind _ (set block.ports 0 (change (port_at 0 block))) exits block.fault block.stopped journal none
      (sym law.stopped_is ∙ none))

  -- what it copies is another message
  copies_change : (block : BlockState) (journal : List Mark) → Ends block journal → (copies : SpreadState)
      → Ends (record block { copies = copies }) journal
  copies_change block journal law copies = both layout meaning b (record block { copies = copies }) journal (each_port layout meaning b block journal law) (whole layout meaning b block journal law)

  copied_next : (first : Option Value) (block : BlockState) (journal : List Mark) → Ends block journal → block.stopped ≡ None
      → Ends (copies_next first block) journal
  copied_next None block journal law none = law
  copied_next (Some value) block journal law none =
      let change : PortState → PortState = λ port. gives_room (1 - copies_weight (puts value block.copies)) (takes_next port) in
      copies_change (with_port 0 change block) journal
      (works_on block journal law change block.exits block.jobs block.recorded refl refl none) (puts value block.copies)

  -- what it copies goes over a link
  copied_out : (node : NodeState) → NodeLaw layout meaning b node → (call : CopyCall) → MayCopy call node
      → Ends (copies_by call node).block (copies_by call node).journal
  copied_out node law call may =
      let block = node.block in
      let copies = after_copy call block.copies in
      let new = with_copies copies block in
      let change = gives_room (copies_weight block.copies - copies_weight copies) in
      let ports = map change block.ports in
      let holds = every_map (λ (q : PortState). is_empty q.waiting) change block.ports (λ q. refl) in
      let made = made_all_same block new node.journal node.journal refl refl (held_by_copy copies block) holds
      (tuple_at_all change block.ports (λ q. refl))
      (group_as block.size node.journal block.ports ports (length-map block.ports change)
      (waiting_at_all change block.ports (λ q. refl)))
      refl in
      marks_by_copy (λ journal. Ends new journal) call block.copies node.journal
      (both layout meaning b new node.journal
      (each_after_all (PortEndsBy block.kind block.fault node.journal) change block.ports
      (λ q there. each_port layout meaning b block node.journal law.ends q there))
      (subst (λ (all : Bool). BlockEnds block.kind all ports block.exits block.fault block.stopped node.journal) (sym made)
      (ports_move block.kind (has_made_all block node.journal) block.ports block.exits block.fault block.stopped node.journal change (λ q. refl)
      (λ number q. refl) (whole layout meaning b block node.journal law.ends))))
      (λ k is value.
      let gives : MayCopy (CopyCall.give k) node = subst (λ (by : CopyCall). MayCopy by node) is may in
      let copier = law.copies.copier (copies_at layout meaning b node law k gives.place) in
      let none = copy_goes_on layout b block node.journal copier k gives.place gives.stands in
      let mark = Gave (link_at block.copies k).rule.id value in
      let nothing : EndsNothing mark = record { complete = λ q. refl; fault = refl; done = refl; goes_on = refl } in
      both layout meaning b new (node.journal ++ mark ∷ [])
      (each_after_all (PortEndsBy block.kind block.fault (node.journal ++ mark ∷ [])) change block.ports
      (λ q there. port_marked block.kind block.fault node.journal mark nothing q (change (port_in block.ports q))
      (each_port layout meaning b block node.journal law.ends q there)))
      (going_ends _ _ ports block.exits block.fault block.stopped (node.journal ++ mark ∷ []) none
      (going_marked node.journal mark nothing (sym law.ends.stopped_is ∙ none))))

  -- it works on a message of each port
  pub works_on_each : (block : BlockState) (journal : List Mark) → Ends block journal
      → (change : PortState → PortState) (exits : OutletState) → ((port : PortState) → (change port).refusing ≡ port.refusing)
      → ((port : PortState) → (change port).ends ≡ port.ends) → block.stopped ≡ None
      → Ends (record block { ports = map change block.ports; exits = exits }) journal
  works_on_each block journal law change exits refusing ends none =
      both layout meaning b (record block { ports = map change block.ports; exits = exits }) journal
      (each_after_all (PortEndsBy block.kind block.fault journal) change block.ports
      (λ q there. rw (refusing (port_in block.ports q), ends (port_in block.ports q)) (each_port layout meaning b block journal law q there)))
      (going_ends block.kind _ (map change block.ports) exits block.fault block.stopped journal none (sym law.stopped_is ∙ none))

  -- it makes a group
  works_on_group : (block : BlockState) (journal : List Mark) → Ends block journal → (size weight : ℕ) (order : List ℕ)
      → block.stopped ≡ None → Ends (makes_group size weight order block) journal
  works_on_group block journal law size weight order none =
      let new = makes_group size weight order block in
      both layout meaning b new journal
      (each_after_group size order (PortEndsBy block.kind block.fault journal) block.ports
      (λ q count there. each_port layout meaning b block journal law q there))
      (going_ends block.kind _ new.ports new.exits block.fault block.stopped journal none (sym law.stopped_is ∙ none))

  kept_as : (kind : BlockKind) (values : List Value) (block : BlockState) (journal : List Mark) → Ends block journal
      → block.stopped ≡ None
      → Ends (keeps_results kind values block) journal
  kept_as Action values block journal law none =
      works_on block journal law (λ port. gives_room 1 (takes_next port)) block.exits
      (works_off block.jobs) (block.recorded ++ values) refl refl none
  kept_as Buffer [] block journal law none =
      works_on block journal law (λ port. gives_room 1 (takes_next port)) block.exits block.jobs block.recorded refl refl
      none
  kept_as Buffer (value ∷ values) block journal law none =
      works_on block journal law takes_next (puts_out (value ∷ values) block).exits block.jobs block.recorded refl refl
      none
  kept_as kind [] block journal law none =
      works_on block journal law (λ port. gives_room 1 (takes_next port)) block.exits (works_off block.jobs)
      block.recorded refl refl none
  kept_as kind (value ∷ values) block journal law none =
      works_on block journal law takes_next (puts_out (value ∷ values) block).exits (works_off block.jobs)
      block.recorded refl refl none

  yielded : (made : Result (List Value) ℕ) (block : BlockState) (journal : List Mark) → Ends block journal
      → block.stopped ≡ None
      → Ends (yields made block) journal
  yielded (Ok values) block journal law none = kept_as block.kind values block journal law none
  yielded (Err number) block journal law none =
      both layout meaning b (fails number block) journal
      (each_after_all (PortEndsBy block.kind (Some number) journal) port_fails block.ports
      (λ q there. port_failed block.fault number (has_ended q journal) (completes_by block.kind q journal)
      (port_in block.ports q).refusing (port_in block.ports q).ends (each_port layout meaning b block journal law q there)))
      (going_ends block.kind _ (map port_fails block.ports) block.exits (Some number) block.stopped journal none
      (sym law.stopped_is ∙ none))

  made_next : (first : Option Value) (block : BlockState) (journal : List Mark) → Ends block journal
      → block.stopped ≡ None
      → Ends (makes_of (block_makes layout meaning b) first block) journal
  made_next None block journal law none = law
  made_next (Some value) block journal law none =
      yielded (made_of block.kind (block_makes layout meaning b) value) block journal law none

  -- what has its element took its message, and what did not has none
  written_so : (node : NodeState) → NodeLaw layout meaning b node → is_written node.block ≡ true
      → has_its_message node.block.kind node.journal ≡ true
  written_so node law written =
      let once = (and_parts (is_write_once node.block.kind) (is_some node.block.copies.element) written).0 in
      written_tells layout b node.block node.journal (law.copies.copier (kind_tells is_write_once true is_one_taker false refl node.block.kind once)) written

  unwritten_so : (node : NodeState) → NodeLaw layout meaning b node → has_its_message node.block.kind node.journal ≡ false
      → is_written node.block ≡ false
  unwritten_so node law none =
      false_from_ne_true (is_written node.block) (λ written.
      never_both (has_its_message node.block.kind node.journal) (written_so node law written) none)

  completed : (node : NodeState) → NodeLaw layout meaning b node → (p : ℕ) → MayCompletePort p node
      → Ends (with_port p port_closes node.block) (node.journal ++ Complete p ∷ [])
  completed node law p may =
      let block = node.block in
      let old = port_at p block in
      let tells = may_complete_tells p block may.completes in
      let going =
      (open_goes_on layout meaning b block node.journal law.ends p may.port tells.open_port).0 in
      let mark = Complete p in
      let later = node.journal ++ mark ∷ [] in
      let there : has_complete p later ≡ true = some_last (is_complete_mark p) node.journal mark (eq-eqb p p refl) in
      both layout meaning b (with_port p port_closes block) later
      (each_after_one (PortEndsBy block.kind block.fault later) block.ports p (port_closes old)
      (λ small. port_closed block.fault (has_ended p node.journal) (completes_by block.kind p node.journal) (has_ended p later)
      (completes_by block.kind p later) old.refusing old.ends (each_port layout meaning b block node.journal law.ends p small)
      (ended_by_complete p later there)
      (λ is. seen_unless (has_seen_completion old.ends) (is_written block) tells.completion
      (unwritten_so node law (unwritten_before block.kind node.journal mark
      (completes_tells (has_complete p later) (has_its_message block.kind later) is).1))))
      (λ q small other. other_marked block.kind block.fault node.journal p q (port_in block.ports q)
      (ne_eqb p q (λ same. other (sym same)))
      (each_port layout meaning b block node.journal law.ends q small)))
      (going_ends block.kind _ (set block.ports p (port_closes old)) block.exits block.fault block.stopped later
      (law.ends.stopped_is ∙ going)
      (outcome_more node.journal mark going))
    where
      other_marked : (kind : BlockKind) (fault : Option ℕ) (journal : List Mark) (p q : ℕ) (port : PortState) → (p == q) ≡ false
          → PortEndsBy kind fault journal q port → PortEndsBy kind fault (journal ++ Complete p ∷ []) q port
      other_marked kind fault journal p q port other law =
          rw (ended_no_more q journal (Complete p) other refl refl)
          (fewer_complete fault (has_ended q journal) (completes_by kind q journal)
          (completes_by kind q (journal ++ Complete p ∷ [])) port.refusing port.ends (completes_more kind q journal (Complete p) other) law)

  -- its jobs change
  pub jobs_change : (block : BlockState) (journal : List Mark) → Ends block journal → (change : JobsState → JobsState)
      → Ends (with_jobs change block) journal
  jobs_change block journal law change = record {
    stopped_is = law.stopped_is;
    ended_is = law.ended_is;
    failed = law.failed;
    own_fault = law.own_fault;
    refused = law.refused;
    numbered = law.numbered;
    at_rest = law.at_rest;
    done_empty = law.done_empty;
    done_complete = law.done_complete;
    complete_cause = law.complete_cause;
    fault_cause = law.fault_cause;
    faulted_by = law.faulted_by;
  }

  after_each : (node : NodeState) (call : NodeCall) → NodeLaw layout meaning b node → MayCall layout meaning b call node
      → Ends (after_call layout meaning b call node).block (after_call layout meaning b call node).journal
  after_each node (NodeCall.want p k) law may =
      let port = port_at p node.block in
      let stage = port_stage k port in
      moves_in layout meaning b node.block node.journal law.ends p k (wants k port)
      (record (end_in k port.ends) { stage = Accepted (message_of stage) }) may.0.port refl refl refl
      (unseen_goes node.block.fault port.refusing stage (Accepted (message_of stage)) is_offer (λ how. refl)
      may.0.stands refl (λ why is. absurd (cc)))
  after_each node (NodeCall.turn_down p k) law may =
      let port = port_at p node.block in
      let stage = port_stage k port in
      moves_in layout meaning b node.block node.journal law.ends p k (turns_down k port)
      (record (end_in k port.ends) { stage = Free }) may.port refl refl refl
      (unseen_goes node.block.fault port.refusing stage Free is_posted (λ how. refl) may.stands refl (λ why is. absurd (cc)))
  after_each node (NodeCall.postpone p k) law may =
      let port = port_at p node.block in
      let stage = port_stage k port in
      moves_in layout meaning b node.block node.journal law.ends p k (postpones k port)
      (record (end_in k port.ends) { stage = Postponed (message_of stage) }) may.offered.port refl refl refl
      (unseen_goes node.block.fault port.refusing stage (Postponed (message_of stage))
      is_offered (λ how. refl) may.offered.stands refl (λ why is. absurd (cc)))
  after_each node (NodeCall.refuse p k) law may =
      let port = port_at p node.block in
      let stage = port_stage k port in
      moves_in layout meaning b node.block node.journal law.ends p k (refuses k port)
      (record (end_in k port.ends) { stage = refused_by port.refusing }) may.0.port refl refl refl
      (unseen_goes node.block.fault port.refusing stage (refused_by port.refusing) may_be_refused (λ how. refl)
      may.0.stands (refusal_unseen port.refusing)
      (λ why is. refuses_so node.block.fault port.refusing why (law.ends.own_fault p may.0.port) is))
  after_each node (NodeCall.consume p k) law may =
      let port = port_at p node.block in
      let stage = port_stage k port in
      moves_in layout meaning b node.block node.journal law.ends p k (consumes k port)
      (record (end_in k port.ends) { stage = Consuming (message_of stage) }) may.0.port refl refl refl
      (unseen_goes node.block.fault port.refusing stage (Consuming (message_of stage))
      is_postponed (λ how. refl) may.0.stands refl (λ why is. absurd (cc)))
  after_each node (NodeCall.ask p k) law may =
      let port = port_at p node.block in
      let stage = port_stage k port in
      moves_in layout meaning b node.block node.journal law.ends p k (asks k port)
      (record (end_in k port.ends) { stage = Asking (message_of stage) }) may.port refl refl refl
      (unseen_goes node.block.fault port.refusing stage (Asking (message_of stage))
      is_postponed (λ how. refl) (asks_so p k node may).waits refl (λ why is. absurd (cc)))
  after_each node (NodeCall.claim p k) law may =
      let port = port_at p node.block in
      let stage = port_stage k port in
      moves_in layout meaning b node.block node.journal law.ends p k (claims k port)
      (record (end_in k port.ends) { stage = Claiming (message_of stage) }) may.port refl refl refl
      (unseen_goes node.block.fault port.refusing stage (Claiming (message_of stage))
      is_holding (λ how. refl) (claims_so p k node may).held refl (λ why is. absurd (cc)))
  after_each node (NodeCall.release p k) law may =
      let port = port_at p node.block in
      let stage = port_stage k port in
      moves_in layout meaning b node.block node.journal law.ends p k (releases k port)
      (record (end_in k port.ends) { stage = Postponed (message_of stage) }) may.port refl refl refl
      (unseen_goes node.block.fault port.refusing stage (Postponed (message_of stage))
      is_holding (λ how. refl) (releases_so p k node may).held refl (λ why is. absurd (cc)))
  after_each node (NodeCall.open_with p k value) law may =
      let port = port_at p node.block in
      let stage = port_stage k port in
      moves_in layout meaning b node.block node.journal law.ends p k (opens k value port)
      (record (end_in k port.ends) { stage = Hand (message_of stage); hand = Some value }) may.port refl refl refl
      (unseen_goes node.block.fault port.refusing stage (Hand (message_of stage)) is_arrived (λ how. refl) may.stands refl
      (λ why is. absurd (cc)))
  after_each node (NodeCall.close p k) law may =
      let hand = hand_in k (port_at p node.block).ends in
      let held = holds_in p k hand node in
      let kept = taken_in node law p k hand may in
      taken_in_keeps Ends p k hand node kept
      (λ at_once. copied_next (first_of (held_by held.block)) held.block held.journal kept
      (held_stopped p k hand node ∙ still_going node law p k may))
  after_each node (NodeCall.offer k) law may =
      exits_going layout meaning b node.block node.journal law.ends (offers k (prepares node.block.exits)) may.going
  after_each node (NodeCall.give k) law may = given_out node law k (head_of node.block.exits) may
  after_each node (NodeCall.hold k) law may =
      exits_going layout meaning b node.block node.journal law.ends (holds k node.block.exits)
      (away_goes_on layout meaning b node.block node.journal law.ends k
      (asked_away k node.block.exits may.asked))
  after_each node (NodeCall.deny k) law may =
      exits_going layout meaning b node.block node.journal law.ends (denies k node.block.exits)
      (away_goes_on layout meaning b node.block node.journal law.ends k
      (wish_away (stage_at node.block.exits k) may.stands))
  after_each node (NodeCall.withdraw k) law may =
      exits_going layout meaning b node.block node.journal law.ends (withdraws k node.block.exits)
      (away_goes_on layout meaning b node.block node.journal law.ends k
      (waiting_away (stage_at node.block.exits k) may.waits.stands))
  after_each node (NodeCall.end_link k how) law may =
      let end = end_at node.block.exits k in
      exits_go layout meaning b node.block node.journal law.ends (ends_link k how node.block.exits) refl
      (rest_stays node.block.exits.ends k (record end { stage = source.Ended how }) (λ home. refl))
  after_each node (NodeCall.look_in p k phase) law may =
      let port = port_at p node.block in
      let stage = port_stage k port in
      let goes = look_goes stage phase in
      moves_in layout meaning b node.block node.journal law.ends p k (port_looks k phase port)
      (record (end_in k port.ends) { stage = target_looks stage phase })
      may.0.port refl refl refl
      (record {
        completion = goes.completion;
        fault_kept = goes.fault_kept;
        refused = λ why is. law.ends.refused p k may.0.port may.0.place why (goes.refused why is);
        numbered = λ number. look_numbered stage phase number may.1 (law.ends.numbered p k may.0.port may.0.place);
      })
  after_each node (NodeCall.look_out k phase) law may =
      let end = end_at node.block.exits k in
      exits_go layout meaning b node.block node.journal law.ends (exit_looks k phase node.block.exits) refl
      (rest_stays node.block.exits.ends k (record end { stage = source_looks end.stage phase })
      (look_stays_home end.stage phase))
  after_each node (NodeCall.copy call) law may = copied_out node law call may
  after_each node NodeCall.begin law may = jobs_change node.block node.journal law.ends begins
  after_each node NodeCall.make law may =
      let block = node.block in
      let going = (may_work_tells block may.waits).going in
      next_by (λ (new : NodeState). Ends new.block new.journal) (block_makes layout meaning b) node
      (λ batched. works_on_group block node.journal law.ends block.size 0 (order_in node) going)
      (λ grouped.
      makes_by (λ new. Ends new node.journal) (block_makes layout meaning b) block
      (λ batch. works_on block node.journal law.ends (takes_group block.size) (makes_row block).exits block.jobs
      block.recorded refl refl going)
      (λ join. works_on_each block node.journal law.ends takes_next (makes_tuple block).exits (λ port. refl) (λ port. refl) going)
      (λ broadcast. copied_next (first_of (held_by block)) block node.journal law.ends going)
      (λ other alone single. made_next (first_of (held_by block)) block node.journal law.ends going))
  after_each node (NodeCall.complete p) law may = completed node law p may
  after_each node (NodeCall.fault number) law may = faulted layout meaning b node.block node.journal law.shape law.ends number may
  after_each node NodeCall.finish law may =
      finished layout meaning b node.block node.journal law.shape.some_port law.ends may (written_so node law)

pub ends_kept : (W : Type 0) → EndsKept W
ends_kept W layout meaning b node call law may = after_each layout meaning b node call law may
