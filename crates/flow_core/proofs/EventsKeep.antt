-- Each event that may happen keeps a network in order.
use Rattle.std.proofs.Common.{◌≡◌, ℕ, ◌+◌, ◌^◌, ◌<◌, leb, cond, Bool, true, false, not, List, [], ◌∷◌, length, set, Option, Some, None, is_some, is_none}
use Rattle.std.proofs.Common.{option_map, Result, refl, ap, sym, ◌∙◌, subst}
use Rattle.std.proofs.lemmas.Bool.{and_parts, not-true, leb-false}
use Rattle.flow_value.specs.declared.value.Value.{Value}
use Rattle.flow_link.specs.declared.phase.Move.{Move}
use Rattle.flow_link.specs.declared.phase.Move.TheVariants as move
use Rattle.flow_link.specs.declared.phase.Phase.{Phase}
use Rattle.flow_link.specs.declared.phase.Phase.TheVariants.{Posted}
use Rattle.flow_link.specs.declared.plan.LinkSource.{LinkSource}
use Rattle.flow_link.specs.declared.plan.LinkSource.TheVariants.{Block, Input}
use Rattle.flow_link.specs.declared.plan.LinkTarget.{LinkTarget}
use Rattle.flow_link.specs.declared.plan.LinkTarget.TheVariants.{Port, Exit}
use Rattle.flow_link.specs.Facts.{facts_in}
use Rattle.flow_link.specs.Layout.{Layout}
use Rattle.flow_link.specs.LinkOk.{LinkOk}
use Rattle.flow_link.specs.Lists.{every}
use Rattle.flow_link.specs.Looks.{looking_in, looking_out}
use Rattle.flow_link.specs.Phase.{phase_after}
use Rattle.flow_link.specs.Plan.{link_in, has_work, is_broadcast, is_one_taker}
use Rattle.flow_link.specs.Views.{SourceView, TargetView}
use Rattle.flow_link.proofs.KindsTell.{kind_tells, copy_is}
use Rattle.flow_link.proofs.LinksTell.{links_tell}
use Rattle.flow_link.proofs.LooksKeepOrder.{looks_keep}
use Rattle.flow_outlet.specs.End.{is_free}
use Rattle.flow_outlet.specs.Outlet.{lacks_ids}
use Rattle.flow_block.specs.Block.{is_batched_join, puts_by_unit, put_next}
use Rattle.flow_input.specs.Input.{InputCall, after_input, end_by, input_view, next_id}
use Rattle.flow_input.specs.InputKeeps.{InputsKeep, MayCallInput}
use Rattle.flow_block.specs.Jobs.{Slot}
use Rattle.flow_block_law.specs.JobsEnd.{JobsEndWell, after_job}
use Rattle.flow_block_law.specs.NextMoves.{NextMovesMay}
use Rattle.flow_block.specs.Node.{NodeState, NodeCall, in_view, source_view, puts_next, next_group_in}
use Rattle.flow_block_law.specs.NodeKeeps.{NodesKept, MayCall}
use Rattle.flow_block_law.specs.NodeLaw.{NodeLaw}
use Rattle.flow_block.specs.Peeks.{lacks_next, may_work, may_make, may_end, next_fault}
use Rattle.flow_block.specs.Planned.{in_place, out_place, block_makes}
use Rattle.flow_block_law.specs.ViewsMove.{CallsMoveViews, IsAboutIn, IsAboutOut, IsAboutCopy}
use Rattle.flow_link.proofs.ListTests.{never_both}
use Rattle.flow_core.specs.Events.{NetEvent, MayHappen, HasIds, LinkMay, is_of_source, node_after, source_call, in_call}
use Rattle.flow_core.specs.Events.{input_call, input_after, with_node, with_line, source_peek, target_peek, peek_by}
use Rattle.flow_core.specs.Events.{value_from, slot_after, source_moves, target_moves, source_sees, target_sees}
use Rattle.flow_core.specs.Events.{line_after, moved_by, after_move, after, after_post, with_input}
use Rattle.flow_core.specs.Keeps.{IsRun, NetKeeps}
use Rattle.flow_exit.specs.Exit.{exit_view, exit_call, exit_after}
use Rattle.flow_exit.specs.ExitKeeps.{ExitsKeep}
use Rattle.flow_core.specs.OneMove.{SourceMoved, TargetMoved, BlocksMoveWell, InputsMoveWell, TargetsMoveWell, ExitsMoveWell}
use Rattle.flow_link.specs.declared.trace.LinkState.{LinkState}
use Rattle.flow_link.specs.declared.kinds.BlockUnit.{BlockUnit}
use Rattle.flow_link.specs.Kinds.{unit_of}
use Rattle.flow_core.specs.State.{NetState, node_at, line_at, input_at, exit_at}
use Rattle.flow_core.specs.Statements.{EventsKeep, PostsKeep}
use Rattle.flow_core.proofs.PartsChange.{PartsInOrder, NodeSteps, given_at, taken_at, given_as, taken_as, parts_in_order}
use Rattle.flow_core.proofs.PartsChange.{node_changes, given_stays, taken_stays, line_changes}
use Rattle.flow_core.proofs.EndsStep.{SourceSteps, TargetSteps, call_steps, input_steps}
use Rattle.flow_core.proofs.EndsStep.{block_gives, block_takes, input_gives, exit_takes, exit_steps}
use Rattle.flow_core.proofs.InputsMove.{posts}
use Rattle.flow_core.proofs.NodesStep.{out_moves, in_moves}
use Rattle.flow_core.proofs.LinesKeep.{net_keeps, keeps_with, line_stays}
use Rattle.flow_core.proofs.EndsLook.{target_looks, source_looks_out}
use Rattle.flow_core.proofs.StagesFit.{is_at_home}
use Rattle.flow_core.proofs.PlacesOfLinks.{entry_there, out_there, port_there}

-- there is an id left for what a block makes, over its exits or for its element
pub record IdsLeft (result : Value → Result (List Value) ℕ) (node : NodeState) : Type 0 where
  pub ids : lacks_ids (puts_next result node) node.block.exits ≡ false
  pub copy_id : is_broadcast node.block.kind ≡ true → node.block.copies.id + 1 < 2 ^ 59

-- a broadcast puts nothing into its exits
none_put : (result : Value → Result (List Value) ℕ) (node : NodeState) → is_broadcast node.block.kind ≡ true → puts_next result node ≡ []
none_put result node copies =
    ap (λ (batched : Bool). cond batched (next_group_in node ∷ []) (put_next result node.block))
    (kind_tells is_broadcast true is_batched_join false refl node.block.kind copies)
    ∙ ap (λ (u : BlockUnit). puts_by_unit u result node.block) (copy_is (unit_of node.block.kind) copies)

pub ids_left : {W : Type 0} (layout : Layout W) (meaning : ℕ → Value → Result (List Value) ℕ) (b : ℕ) (node : NodeState)
    → NodeLaw layout meaning b node → (broadcast : Bool) → is_broadcast node.block.kind ≡ broadcast
    → lacks_next (block_makes layout meaning b) node ≡ false → IdsLeft (block_makes layout meaning b) node
ids_left layout meaning b node law true copies ids =
    let block = node.block in
    let copier = law.copies.copier (kind_tells is_broadcast true is_one_taker false refl block.kind copies) in
    let nothing = none_put (block_makes layout meaning b) node copies in
    let left : leb (2 ^ 59) (block.copies.id + 1) ≡ false = rw copies at ids in
    record {
      ids = ap (λ (values : List Value). lacks_ids values block.exits) nothing ∙ ap (lacks_ids []) copier.idle_exits;
      copy_id = λ broadcast. leb-false (2 ^ 59) (block.copies.id + 1) left;
    }
ids_left layout meaning b node law false shares ids =
    let block = node.block in
    let lacks : Bool = lacks_ids (puts_next (block_makes layout meaning b) node) block.exits in
    record {
      ids = sym (ap (λ (copies : Bool). cond copies (leb (2 ^ 59) (block.copies.id + 1)) lacks) shares) ∙ ids;
      copy_id = λ broadcast. absurd (never_both (is_broadcast block.kind) broadcast shares);
    }

module _ {W : Type 0} (kept : NodesKept W) (jobs : JobsEndWell W) (views : CallsMoveViews W) (next_may : NextMovesMay W) (inputs : InputsKeep) (exits : ExitsKeep)
    (blocks_move : BlocksMoveWell W) (inputs_move : InputsMoveWell W) (targets_move : TargetsMoveWell W) (exits_move : ExitsMoveWell W)
    (layout : Layout W) (meaning : ℕ → Value → Result (List Value) ℕ) (run : IsRun layout)
    (net : NetState) (keeps : NetKeeps layout meaning net) where
  parts : PartsInOrder layout meaning net
  parts = parts_in_order layout meaning net keeps

  -- A move of a link
  module _ (l : ℕ) (there : l < length layout.links) (next : Move) (phase : Phase)
      (allowed : phase_after (line_at net l).phase next ≡ Some phase) where
    abbrev Stands : SourceView Value → TargetView Value → Type 0
    Stands source target = LinkOk (facts_in layout l) (line_at net l).phase (line_at net l).slot source target

    abbrev slot_then : LinkSource → Option Value
    slot_then source = slot_after next (value_from layout net source) (line_at net l).slot

    in_order : Stands (given_at layout net l) (taken_at layout net l)
    in_order = (keeps.lines l there).in_order

    -- the source has moved, or the target, and the link is in order
    record SourceGoes (source : LinkSource) (new : NetState) : Type 0 where
      pub view : SourceView Value
      pub steps : SourceSteps layout meaning l net new view
      pub well : SourceMoved (facts_in layout l) phase (slot_then source) view (taken_at layout net l)

    record TargetGoes (source : LinkSource) (new : NetState) : Type 0 where
      pub view : TargetView Value
      pub steps : TargetSteps layout meaning l net new view
      pub well : TargetMoved (facts_in layout l) phase (slot_then source) (given_at layout net l) view

    source_goes : (source : LinkSource) → (link_in layout.links l).source ≡ source
        → source_peek layout net l source ≡ Some next
        → SourceGoes source (source_moves layout meaning l next source net)
    source_goes (Block s) from peek =
        let k = out_place layout s l in
        let node = node_at net s in
        let low = run.leads.from_block l s there from in
        let law = parts.nodes s low in
        let change = node_after layout meaning s (source_call node.block.kind k next) in
        let known = given_as layout net l (Block s) from in
        let stands = subst (λ (view : SourceView Value). Stands view (taken_at layout net l)) known in_order in
        record {
          view = source_view k (change node);
          steps = block_gives layout meaning l run there net parts s change from
              (out_moves kept views layout meaning s node law next_may run.well_formed low k
              (out_there layout meaning s node law l there from) next peek);
          well = blocks_move layout meaning run l s there from node law (line_at net l).phase phase (line_at net l).slot
              (taken_at layout net l) next stands peek allowed;
        }
    source_goes (Input b) from peek =
        let input = input_at layout net b in
        let law = parts.inputs b (run.leads.from_input l b there from) (run.leads.from_inputs l b there from) in
        let change = input_after (input_call next) in
        let known = given_as layout net l (Input b) from in
        let stands = subst (λ (view : SourceView Value). Stands view (taken_at layout net l)) known in_order in
        record {
          view = input_view (change input);
          steps = input_gives layout meaning l run there net parts b change from
              (input_steps inputs input law next (inputs.next input next law peek));
          well = inputs_move layout run l b there from input law (line_at net l).phase phase (line_at net l).slot
              (taken_at layout net l) next stands peek allowed;
        }

    target_goes : (target : LinkTarget) → (link_in layout.links l).target ≡ target
        → target_peek layout net l target ≡ Some next
        → TargetGoes (link_in layout.links l).source (target_moves layout meaning l next target net)
    target_goes (Port t p) to peek =
        let k = in_place layout t p l in
        let node = node_at net t in
        let slot = (line_at net l).slot in
        let low = run.leads.to_block l t p there to in
        let law = parts.nodes t low in
        let port = port_there layout meaning t node law run p l there to in
        let place = entry_there layout meaning t node law run p l there to in
        let change = node_after layout meaning t (in_call p k slot next) in
        let known = taken_as layout net l (Port t p) to in
        let stands = subst (λ (view : TargetView Value). Stands (given_at layout net l) view) known in_order in
        record {
          view = in_view p k (change node);
          steps = block_takes layout meaning l run there net parts t p change to
              (in_moves kept views layout meaning t node law next_may run.well_formed low p k port place slot next peek);
          well = targets_move layout meaning run l t p there to node law (line_at net l).phase phase slot
              (value_from layout net (link_in layout.links l).source) (given_at layout net l) next stands peek allowed;
        }
    target_goes Exit to peek =
        let exit = exit_at layout net l in
        let slot = (line_at net l).slot in
        let law = parts.exits l there to in
        let change = exit_after (exit_call slot next) in
        let known = taken_as layout net l Exit to in
        let stands = subst (λ (view : TargetView Value). Stands (given_at layout net l) view) known in_order in
        record {
          view = exit_view (change exit);
          steps = exit_takes layout meaning l run there net parts change to
              (exit_steps exits exit law slot next (exits.next exit next peek));
          well = exits_move layout l to exit law (line_at net l).phase phase slot
              (value_from layout net (link_in layout.links l).source) (given_at layout net l) next stands peek allowed;
        }

    -- then the other end looks
    source_keeps : (source : LinkSource) (target : LinkTarget) → (link_in layout.links l).target ≡ target
        → (mid : NetState) → SourceGoes source mid
        → NetKeeps layout meaning (target_sees layout meaning l phase target
        (with_line l (line_after layout meaning l next phase source net) mid))
    source_keeps source target to mid goes =
        let line = line_after layout meaning l next phase source net in
        let moved = with_line l line mid in
        let parts_then = line_changes layout meaning mid goes.steps.parts l line in
        let taken = taken_at layout net l in
        let numbered =
        (links_tell Value).fault_numbered (facts_in layout l) phase line.slot goes.view taken goes.well.in_order in
        let looks = target_looks kept views inputs exits layout meaning run l there phase moved parts_then target to numbered in
        let settled = (looks_keep Value).settle phase goes.view taken in
        net_keeps layout meaning net keeps (target_sees layout meaning l phase target moved) looks.parts
        l line goes.view (looking_in phase taken) there
        (looks.lines ∙ ap (λ (all : List LinkState). set all l line) goes.steps.lines)
        (looks.sources l there ∙ goes.steps.given)
        (looks.taken ∙ ap (looking_in phase) (goes.steps.targets l there)) (
          (looks_keep Value).in_keeps (facts_in layout l) phase line.slot goes.view taken goes.well.in_order,
          record { by_source = goes.well.seen; by_target = settled.by_target },
        )
        (λ k low apart. looks.sources k low ∙ goes.steps.others k low apart)
        (λ k low apart. looks.others k low apart ∙ goes.steps.targets k low)

    target_keeps : (source : LinkSource) (target : LinkTarget) → (link_in layout.links l).source ≡ source
        → (link_in layout.links l).target ≡ target → target_peek layout net l target ≡ Some next
        → NetKeeps layout meaning (source_sees layout meaning l phase source
        (with_line l (line_after layout meaning l next phase (link_in layout.links l).source net)
        (target_moves layout meaning l next target net)))
    target_keeps source target from to peek =
        let goes = target_goes target to peek in
        let line = line_after layout meaning l next phase (link_in layout.links l).source net in
        let mid = target_moves layout meaning l next target net in
        let moved = with_line l line mid in
        let parts_then = line_changes layout meaning mid goes.steps.parts l line in
        let given = given_at layout net l in
        let stands : LinkOk (facts_in layout l) phase line.slot (given_at layout moved l) goes.view =
        subst (λ (view : SourceView Value). LinkOk (facts_in layout l) phase line.slot view goes.view)
        (sym (goes.steps.sources l there)) goes.well.in_order in
        let looks =
        source_looks_out kept views inputs exits layout meaning run l there phase moved parts_then
        line.slot goes.view stands source from in
        let settled = (looks_keep Value).settle phase given goes.view in
        net_keeps layout meaning net keeps (source_sees layout meaning l phase source moved) looks.parts
        l line (looking_out phase given) goes.view there
        (looks.lines ∙ ap (λ (all : List LinkState). set all l line) goes.steps.lines)
        (looks.given ∙ ap (looking_out phase) (goes.steps.sources l there))
        (looks.targets l there ∙ goes.steps.taken) (
          (looks_keep Value).out_keeps (facts_in layout l) phase line.slot given goes.view goes.well.in_order,
          record { by_source = settled.by_source; by_target = goes.well.seen },
        )
        (λ k low apart. looks.others k low apart ∙ goes.steps.sources k low)
        (λ k low apart. looks.targets k low ∙ goes.steps.others k low apart)

    mover_keeps : (by_source : Bool) → peek_by layout by_source net l (link_in layout.links l) ≡ Some next
        → NetKeeps layout meaning (moved_by layout meaning by_source l next phase (link_in layout.links l) net)
    mover_keeps true peek =
        let source = (link_in layout.links l).source in
        source_keeps source (link_in layout.links l).target refl (source_moves layout meaning l next source net) (source_goes source refl peek)
    mover_keeps false peek = target_keeps (link_in layout.links l).source (link_in layout.links l).target refl refl peek

  -- The caller of an input posts a value
  pub post_keeps : (l b : ℕ) (value : Value) → l < length layout.links → (link_in layout.links l).source ≡ Input b
      → MayCallInput (InputCall.post value) (input_at layout net b) → NetKeeps layout meaning (after_post layout meaning l b value net)
  post_keeps l b value there from may =
      let input = input_at layout net b in
      let law = parts.inputs b (run.leads.from_input l b there from) (run.leads.from_inputs l b there from) in
      let change = after_input (InputCall.post value) in
      let id = next_id input in
      let known = given_as layout net l (Input b) from in
      let line = line_at net l in
      let taken = taken_at layout net l in
      let free = (and_parts (is_free input.stage) (is_none (end_by input.ending)) may.so).0 in
      let ok = subst (λ (view : SourceView Value). LinkOk (facts_in layout l) line.phase line.slot view taken) known
      (keeps.lines l there).in_order in
      let idle = (links_tell Value).free_is_idle (facts_in layout l) line.phase line.slot (input_view input) taken ok (is_at_home input.stage free) in
      let allowed : phase_after line.phase (move.Post id) ≡ Some (Posted id) = ap (λ (phase : Phase). phase_after phase (move.Post id)) idle in
      source_keeps l there (move.Post id) (Posted id) allowed (Input b) (link_in layout.links l).target refl (with_input layout b change net)
      (record {
        view = input_view (change input);
        steps = input_gives layout meaning l run there net parts b change from (inputs.calls input (InputCall.post value) law may);
        well = posts (facts_in layout l) line.phase (Posted id) line.slot taken input law inputs
            (run.leads.inputs_unlimited l b there from) ok value may free allowed;
      })

  move_keeps : (l : ℕ) (next : Move) → LinkMay layout net l next
      → (found : Option Phase) → phase_after (line_at net l).phase next ≡ found
      → NetKeeps layout meaning (after_move layout meaning l next found net)
  move_keeps l next may None is = keeps
  move_keeps l next may (Some phase) is = mover_keeps l may.there next phase is (is_of_source next) may.peek

  -- What a block does by itself
  module _ (b : ℕ) (low : b < length layout.blocks) where
    change_keeps : (In : ℕ → ℕ → Type 0) (Out : ℕ → Type 0) (change : NodeState → NodeState)
        → NodeSteps layout meaning b In Out (node_at net b) (change (node_at net b))
        → ((q j : ℕ) → In q j → ⊥) → ((j : ℕ) → Out j → ⊥)
        → NetKeeps layout meaning (with_node b change net)
    change_keeps In Out change steps about_in about_out =
        let new = with_node b change net in
        let parts_then = node_changes layout meaning run net parts b low In Out change steps in
        keeps_with layout meaning net keeps new parts_then (λ k there.
        line_stays layout meaning net keeps new parts_then k there refl
        (given_stays layout meaning run net parts b low In Out change steps k there (λ leads. about_out _))
        (taken_stays layout meaning run net parts b low In Out change steps k there (λ p leads. about_in p _)))

    call_keeps : (call : NodeCall) → MayCall layout meaning b call (node_at net b)
        → ((q j : ℕ) → IsAboutIn q j call → ⊥) → ((j : ℕ) → IsAboutOut j call → ⊥) → ((j : ℕ) → IsAboutCopy j call → ⊥)
        → NetKeeps layout meaning (with_node b (node_after layout meaning b (Some call)) net)
    call_keeps call may about_in about_out about_copy =
        change_keeps (λ p j. ⊥) (λ j. ⊥) (node_after layout meaning b (Some call))
        (call_steps layout meaning kept views b (node_at net b) (keeps.nodes b low) (λ p j. ⊥) (λ j. ⊥) call may
        about_in about_out about_copy) (λ q j about. about) (λ j about. about)

    -- a message is handed on
    make_keeps : may_make (node_at net b).block ≡ true
        → HasIds layout meaning (NetEvent.make b) net
        → NetKeeps layout meaning (with_node b (node_after layout meaning b (Some NodeCall.make)) net)
    make_keeps would ids =
        let block = (node_at net b).block in
        let law = keeps.nodes b low in
        let both = and_parts (may_work block) (not (has_work block.kind)) would in
        let none = law.jobs.only_works (not-true (has_work block.kind) both.1) in
        let left = ids_left layout meaning b (node_at net b) law (is_broadcast block.kind) refl ids in
        call_keeps NodeCall.make
        (record {
          waits = both.0;
          all_out = ap (λ (slots : List Slot). every is_none slots) none;
          ids = left.ids;
          copy_id = left.copy_id;
        })
        (λ q j about. about) (λ j about. about) (λ j about. about)

    -- a job ends
    job_keeps : (ticket : ℕ) → may_end ticket (node_at net b).block ≡ true
        → HasIds layout meaning (NetEvent.end_job b ticket) net
        → NetKeeps layout meaning (with_node b (after_job (block_makes layout meaning b) ticket) net)
    job_keeps ticket out ids =
        let well =
        jobs layout meaning b (node_at net b) ticket (keeps.nodes b low) (record { out = out; ids = ids }) in
        change_keeps (λ p j. ⊥) (λ j. ⊥) (after_job (block_makes layout meaning b) ticket)
        (record {
          law = well.law;
          ins = λ p k small near apart. well.views.ins p k small near;
          outs = λ k near apart. well.views.outs k near;
          copies = λ k near apart. well.views.copies k near;
        })
        (λ q j about. about) (λ j about. about)

    fault_keeps : (found : Option ℕ) → next_fault (node_at net b).block ≡ found → is_some found ≡ true
        → NetKeeps layout meaning (with_node b (node_after layout meaning b (option_map NodeCall.fault found)) net)
    fault_keeps None is would = absurd (cc)
    fault_keeps (Some number) is would =
        call_keeps (NodeCall.fault number) is (λ q j about. about) (λ j about. about) (λ j about. about)

  event_keeps : (event : NetEvent) → MayHappen layout meaning event net
      → NetKeeps layout meaning (after layout meaning event net)
  event_keeps (NetEvent.at_link l next) may =
      move_keeps l next may.enabled (phase_after (line_at net l).phase next) refl
  event_keeps (NetEvent.make b) may =
      make_keeps b may.enabled.there may.enabled.would may.ids
  event_keeps (NetEvent.begin b) may =
      call_keeps b may.enabled.there NodeCall.begin may.enabled.would (λ q j about. about) (λ j about. about) (λ j about. about)
  event_keeps (NetEvent.end_job b ticket) may = job_keeps b may.enabled.there ticket may.enabled.would may.ids
  event_keeps (NetEvent.complete b p) may =
      call_keeps b may.enabled.there (NodeCall.complete p)
      (record { port = may.enabled.port; completes = may.enabled.would })
      (λ q j about. about) (λ j about. about) (λ j about. about)
  event_keeps (NetEvent.fault b) may =
      fault_keeps b may.enabled.there (next_fault (node_at net b).block) refl may.enabled.would
  event_keeps (NetEvent.finish b) may =
      call_keeps b may.enabled.there NodeCall.finish may.enabled.would (λ q j about. about) (λ j about. about) (λ j about. about)

pub events_keep : {W : Type 0} → NodesKept W → JobsEndWell W → CallsMoveViews W → NextMovesMay W → InputsKeep → ExitsKeep
    → BlocksMoveWell W → InputsMoveWell W → TargetsMoveWell W → ExitsMoveWell W → EventsKeep W
events_keep kept jobs views next_may inputs exits blocks_move inputs_move targets_move exits_move layout meaning run net event keeps may =
    event_keeps kept jobs views next_may inputs exits blocks_move inputs_move targets_move exits_move layout meaning run net keeps event may

pub posts_keep : {W : Type 0} → NodesKept W → JobsEndWell W → CallsMoveViews W → NextMovesMay W → InputsKeep → ExitsKeep
    → BlocksMoveWell W → InputsMoveWell W → TargetsMoveWell W → ExitsMoveWell W → PostsKeep W
posts_keep kept jobs views next_may inputs exits blocks_move inputs_move targets_move exits_move layout meaning run net l b value keeps =
    post_keeps kept jobs views next_may inputs exits blocks_move inputs_move targets_move exits_move layout meaning run net keeps l b value
