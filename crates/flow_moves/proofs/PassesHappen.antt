-- Where a source would offer a message, and the target takes it at once, each of the five events that take it over the link may
-- happen in its turn.
use Rattle.std.proofs.Common.{◌≡◌, ℕ, ◌<◌, Bool, true, false, cond, length, List, set, get_or, Option, Some, Result, is_some}
use Rattle.std.proofs.Common.{refl, sym, ap, ◌∙◌, subst}
use Rattle.std.proofs.lemmas.List.{get_or-set_same, get_or-set_other, length-set}
use Rattle.flow_value.specs.declared.value.Value.{Value}
use Rattle.flow_link.specs.declared.phase.Move.{Move}
use Rattle.flow_link.specs.declared.phase.Move.TheVariants.{Offer, Want, Give, Open, Close}
use Rattle.flow_link.specs.declared.phase.Phase.{Phase}
use Rattle.flow_link.specs.declared.phase.Phase.TheVariants.{Idle, Offered, Wanted, Given, Opened}
use Rattle.flow_link.specs.declared.plan.LinkSource.{LinkSource}
use Rattle.flow_link.specs.declared.plan.LinkSource.TheVariants.{Block, Input}
use Rattle.flow_link.specs.declared.plan.LinkTarget.{LinkTarget}
use Rattle.flow_link.specs.declared.plan.LinkTarget.TheVariants.{Port, Exit}
use Rattle.flow_link.specs.declared.stage.SourceStage.{SourceStage}
use Rattle.flow_link.specs.Layout.{Layout}
use Rattle.flow_link.specs.LooksKeep.{SeenAt}
use Rattle.flow_link.specs.Phase.{phase_after}
use Rattle.flow_link.specs.Plan.{link_in, is_one_taker}
use Rattle.flow_link.specs.declared.plan.Link.{Link}
use Rattle.flow_link.specs.Stage.{source_looks}
use Rattle.flow_link.specs.Views.{SourceView, SourceStage as SourceSeen, TargetStage as TargetSeen}
use Rattle.flow_link.proofs.LooksKeepOrder.{looks_keep}
use Rattle.flow_intake.specs.Port.{stage_at, hand_in}
use Rattle.flow_intake.specs.Calls.{in_move, looks}
use Rattle.flow_outlet.specs.Outlet.{stage_at as out_stage_at}
use Rattle.flow_spread.specs.Spread.{stage_at as copy_stage_at}
use Rattle.flow_block.specs.Block.{port_at}
use Rattle.flow_block.specs.Copies.{CopyCall}
use Rattle.flow_input.specs.Input.{InputCall, InputState, after_input, input_move, is_turned_down, no_input, stands_at, takes_back}
use Rattle.flow_block_law.specs.NextMoves.{next_in, next_source}
use Rattle.flow_group.specs.Round.{round_move}
use Rattle.flow_block.specs.Node.{NodeState, NodeCall, or_else, source_view}
use Rattle.flow_block.specs.Peeks.{is_held_up, is_copy_held_up}
use Rattle.flow_block.specs.Planned.{in_place, out_place, input_place}
use Rattle.flow_block.specs.Routes.{route_of, source_place, target_place}
use Rattle.flow_core.specs.Events.{NetEvent, LinkMay, MayHappen, is_of_source, after, after_move, moved_by, line_after, node_after}
use Rattle.flow_core.specs.Events.{source_moves, target_moves, source_sees, target_sees, source_peek, target_peek, with_line}
use Rattle.flow_core.specs.Events.{source_look}
use Rattle.flow_core.specs.Keeps.{NetKeeps}
use Rattle.flow_link.specs.declared.trace.LinkState.{LinkState}
use Rattle.flow_exit.specs.Exit.{wants_one}
use Rattle.flow_core.specs.State.{NetState, node_at, line_at, input_at, exit_at, source_from, target_from, no_node, fresh_line}
use Rattle.flow_core.proofs.NetworksInOrder.{all_events_keep}
use Rattle.flow_core.proofs.SourcesByKind.{shared_view, shared_next, copied_view, copied_next}
use Rattle.flow_moves.specs.Passes.{PassesHappen, are_apart, takes_now}
use Rattle.flow_moves.specs.Ready.{SourceIsThere, TargetIsThere, IsThere, exit_count}
use Rattle.flow_moves.proofs.EndsAnswer.{still_accepts, out_kept, sees_accepted, copy_accepted, arrived_opens, hand_closes, exit_opens, exit_closes}
use Rattle.flow_moves.proofs.LinksThere.{links_are_there}
use Rattle.flow_moves.proofs.NextMovesHappen.{sources_may}
use Rattle.flow_moves.proofs.PassesTell.{takes_port, pass_tells, blocks_apart}

module _ {W : Type 0} (layout : Layout W) (meaning : ℕ → Value → Result (List Value) ℕ) (l : ℕ) where
  abbrev link : Link
  link = link_in layout.links l

  -- The phase after a move

  moves_lines : (next : Move) (from : LinkSource) (net : NetState) → (source_moves layout meaning l next from net).lines ≡ net.lines
  moves_lines next (Block s) net = refl
  moves_lines next (Input b) net = refl

  takes_lines : (next : Move) (into : LinkTarget) (net : NetState) → (target_moves layout meaning l next into net).lines ≡ net.lines
  takes_lines next (Port t p) net = refl
  takes_lines next Exit net = refl

  from_sees_lines : (phase : Phase) (from : LinkSource) (net : NetState)
      → (source_sees layout meaning l phase from net).lines ≡ net.lines
  from_sees_lines phase (Block s) net = refl
  from_sees_lines phase (Input b) net = refl

  into_sees_lines : (phase : Phase) (into : LinkTarget) (net : NetState)
      → (target_sees layout meaning l phase into net).lines ≡ net.lines
  into_sees_lines phase (Port t p) net = refl
  into_sees_lines phase Exit net = refl

  module _ (net : NetState) (low : l < length net.lines) (next : Move) (phase : Phase) where
    abbrev line_then : LinkState
    line_then = line_after layout meaning l next phase link.source net

    line_of_moved : (by_source : Bool) → line_at (moved_by layout meaning by_source l next phase link net) l ≡ line_then
    line_of_moved true =
        let moved = source_moves layout meaning l next link.source net in
        ap (λ (lines : List LinkState). get_or lines l fresh_line) (into_sees_lines phase link.target (with_line l line_then moved))
        ∙ ap (λ (lines : List LinkState). get_or (set lines l line_then) l fresh_line) (moves_lines next link.source net)
        ∙ get_or-set_same net.lines l line_then fresh_line low
    line_of_moved false =
        let moved = target_moves layout meaning l next link.target net in
        ap (λ (lines : List LinkState). get_or lines l fresh_line) (from_sees_lines phase link.source (with_line l line_then moved))
        ∙ ap (λ (lines : List LinkState). get_or (set lines l line_then) l fresh_line) (takes_lines next link.target net)
        ∙ get_or-set_same net.lines l line_then fresh_line low

    pub moved_is : phase_after (line_at net l).phase next ≡ Some phase
        → after layout meaning (NetEvent.at_link l next) net ≡ moved_by layout meaning (is_of_source next) l next phase link net
    moved_is step = ap (λ (to : Option Phase). after_move layout meaning l next to net) step

    pub phase_then : phase_after (line_at net l).phase next ≡ Some phase
        → (line_at (after layout meaning (NetEvent.at_link l next) net) l).phase ≡ phase
    phase_then step =
        ap (λ (now : NetState). (line_at now l).phase) (moved_is step)
        ∙ ap (λ (line : LinkState). line.phase) (line_of_moved (is_of_source next))

  -- What the ends would do next

  module _ (i : ℕ) (net : NetState) where
    -- the target of an offer
    abbrev offered : LinkSource → LinkState → NetState
    offered from line = with_line l line (source_moves layout meaning l (Offer i) from net)

    stays_beside : (from : LinkSource) (line : LinkState) (t p : ℕ) → are_apart from (Port t p) ≡ true
        → node_at (offered from line) t ≡ node_at net t
    stays_beside (Input b) line t p apart = refl
    stays_beside (Block s) line t p apart =
        get_or-set_other net.nodes s t _ no_node (λ same. blocks_apart s t apart (sym same))

    as_many : (from : LinkSource) (line : LinkState) → length (offered from line).nodes ≡ length net.nodes
    as_many (Input b) line = refl
    as_many (Block s) line = length-set net.nodes s _

    wants_next : (from : LinkSource) (line : LinkState) (into : LinkTarget) → TargetIsThere net into (target_place layout into l)
        → are_apart from into ≡ true → takes_now net into (target_place layout into l) ≡ true
        → target_peek layout (target_sees layout meaning l (Offered i) into (offered from line)) l into ≡ Some Want
    wants_next from line Exit there apart takes = absurd (cc)
    wants_next from line (Port t p) there apart takes =
        let k = in_place layout t p l in
        let old = node_at net t in
        let look = node_after layout meaning t (Some (NodeCall.look_in p k (Offered i))) in
        let port = port_at p old.block in
        let here : t < length (offered from line).nodes = subst (λ (count : ℕ). t < count) (sym (as_many from line)) there.0 in
        ap (next_in p k) (get_or-set_same (offered from line).nodes t (look (node_at (offered from line) t)) no_node here)
        ∙ ap (λ (node : NodeState). next_in p k (look node)) (stays_beside from line t p apart)
        ∙ ap (λ (own : Option Move). or_else own (round_move p k (look old).round (look old).block.ports))
        (ap (in_move k) (get_or-set_same old.block.ports p (looks k (Offered i) port) _ there.1.port)
        ∙ still_accepts k i port there.1.place (takes_port p k old takes))

    -- the source of an offer that is wanted
    abbrev wanted : LinkTarget → LinkState → NetState
    wanted into line = with_line l line (target_moves layout meaning l Want into net)

    node_beside : (into : LinkTarget) (line : LinkState) (s : ℕ) → are_apart (Block s) into ≡ true
        → node_at (wanted into line) s ≡ node_at net s
    node_beside Exit line s apart = refl
    node_beside (Port t p) line s apart = get_or-set_other net.nodes t s _ no_node (blocks_apart s t apart)

    count_beside : (into : LinkTarget) (line : LinkState) → length (wanted into line).nodes ≡ length net.nodes
    count_beside Exit line = refl
    count_beside (Port t p) line = length-set net.nodes t _

    inputs_beside : (into : LinkTarget) (line : LinkState) → (wanted into line).inputs ≡ net.inputs
    inputs_beside Exit line = refl
    inputs_beside (Port t p) line = refl

    -- a source sees the message wanted, and gives it: its head, or a copy
    shared_gives : (s k : ℕ) (old : NodeState) → is_one_taker old.block.kind ≡ true → k < exit_count old
        → (source_view k old).stage ≡ SourceSeen.out i
        → next_source k (node_after layout meaning s (Some (source_look old.block.kind k (Wanted i))) old) ≡ Some Give
    shared_gives s k old shares there out =
        let looked = node_after layout meaning s (Some (NodeCall.look_out k (Wanted i))) old in
        let low = subst (λ (so : Bool). k < cond so (length old.block.exits.ends) (length old.block.copies.ends)) shares there in
        ap (λ (so : Bool). next_source k (node_after layout meaning s
        (Some (cond so (NodeCall.look_out k (Wanted i)) (NodeCall.copy (CopyCall.look k (Wanted i))))) old)) shares
        ∙ shared_next k looked shares
        ∙ sees_accepted k i old.block.exits old.block.stopped (is_held_up looked.block) low
        (out_kept (out_stage_at old.block.exits k) i (sym (ap (λ (view : SourceView Value). view.stage) (shared_view k old shares)) ∙ out))

    copied_gives : (s k : ℕ) (old : NodeState) → is_one_taker old.block.kind ≡ false → k < exit_count old
        → (source_view k old).stage ≡ SourceSeen.out i
        → next_source k (node_after layout meaning s (Some (source_look old.block.kind k (Wanted i))) old) ≡ Some Give
    copied_gives s k old copying there out =
        let looked = node_after layout meaning s (Some (NodeCall.copy (CopyCall.look k (Wanted i)))) old in
        let low = subst (λ (so : Bool). k < cond so (length old.block.exits.ends) (length old.block.copies.ends)) copying there in
        ap (λ (so : Bool). next_source k (node_after layout meaning s
        (Some (cond so (NodeCall.look_out k (Wanted i)) (NodeCall.copy (CopyCall.look k (Wanted i))))) old)) copying
        ∙ copied_next k looked copying
        ∙ copy_accepted k i old.block.copies old.block.stopped (is_copy_held_up looked.block) low
        (out_kept (copy_stage_at old.block.copies k) i (sym (ap (λ (view : SourceView Value). view.stage) (copied_view k old copying)) ∙ out))

    block_gives : (s k : ℕ) (old : NodeState) (b : Bool) → is_one_taker old.block.kind ≡ b → k < exit_count old
        → (source_view k old).stage ≡ SourceSeen.out i
        → next_source k (node_after layout meaning s (Some (source_look old.block.kind k (Wanted i))) old) ≡ Some Give
    block_gives s k old true shares there out = shared_gives s k old shares there out
    block_gives s k old false copying there out = copied_gives s k old copying there out

    gives_next : (from : LinkSource) (into : LinkTarget) (line : LinkState) → SourceIsThere net from (source_place layout from l)
        → are_apart from into ≡ true → (source_from layout net l from).stage ≡ SourceSeen.out i
        → source_peek layout (source_sees layout meaning l (Wanted i) from (wanted into line)) l from ≡ Some Give
    gives_next (Block s) into line there apart out =
        let k = out_place layout s l in
        let old = node_at net s in
        let look = λ (node : NodeState). node_after layout meaning s (Some (source_look node.block.kind k (Wanted i))) node in
        let here : s < length (wanted into line).nodes = subst (λ (count : ℕ). s < count) (sym (count_beside into line)) there.0 in
        ap (next_source k) (get_or-set_same (wanted into line).nodes s (look (node_at (wanted into line) s)) no_node here)
        ∙ ap (λ (node : NodeState). next_source k (look node)) (node_beside into line s apart)
        ∙ block_gives s k old (is_one_taker old.block.kind) refl there.1 out
    gives_next (Input b) into line there apart out =
        let place = input_place layout b in
        let old = input_at layout net b in
        let look = after_input (InputCall.look (Wanted i)) in
        let here : place < length (wanted into line).inputs =
        subst (λ (inputs : List InputState). place < length inputs) (sym (inputs_beside into line)) there in
        ap input_move (get_or-set_same (wanted into line).inputs place (look (input_at layout (wanted into line) b)) no_input here)
        ∙ ap (λ (inputs : List InputState). input_move (look (get_or inputs place no_input))) (inputs_beside into line)
        ∙ ap (λ (stage : SourceStage). input_move
        (cond (is_turned_down stage (Wanted i)) (takes_back old) (stands_at (source_looks stage (Wanted i)) old)))
        (out_kept old.stage i out)

    -- a target with a message in the slot, or in hand
    opens_next : (into : LinkTarget) → (target_from layout net l into).stage ≡ TargetSeen.arrived i
        → target_peek layout net l into ≡ Some Open
    opens_next Exit is =
        let exit = exit_at layout net l in
        exit_opens i (wants_one exit) exit.stage exit.hand is
    opens_next (Port t p) is =
        let k = in_place layout t p l in
        let node = node_at net t in
        let port = port_at p node.block in
        ap (λ (own : Option Move). or_else own (round_move p k node.round node.block.ports))
        (arrived_opens k i port (stage_at k port) (hand_in k port.ends) is)

    closes_next : (into : LinkTarget) (value : Value) → (target_from layout net l into).stage ≡ TargetSeen.hand i value
        → target_peek layout net l into ≡ Some Close
    closes_next Exit value is =
        let exit = exit_at layout net l in
        exit_closes i value (wants_one exit) exit.stage exit.hand is
    closes_next (Port t p) value is =
        let k = in_place layout t p l in
        let node = node_at net t in
        let port = port_at p node.block in
        ap (λ (own : Option Move). or_else own (round_move p k node.round node.block.ports))
        (hand_closes k i value port (stage_at k port) (hand_in k port.ends) is)

  -- An event that the link's phase allows, and that its mover would do next, may happen

  module _ (net : NetState) (there : l < length layout.links) (next : Move) (phase to : Phase) (at : (line_at net l).phase ≡ phase)
      (step : phase_after phase next ≡ Some to) where
    step_at : phase_after (line_at net l).phase next ≡ Some to
    step_at = ap (λ (here : Phase). phase_after here next) at ∙ step

    allowed_at : is_some (phase_after (line_at net l).phase next) ≡ true
    allowed_at = ap (λ (found : Option Phase). is_some found) step_at

    target_event : target_peek layout net l link.target ≡ Some next → is_of_source next ≡ false → LinkMay layout net l next
    target_event peek turn = record { there = there; allowed = allowed_at; peek = rw turn peek }

    source_event : source_peek layout net l link.source ≡ Some next → is_of_source next ≡ true → LinkMay layout net l next
    source_event peek turn = record { there = there; allowed = allowed_at; peek = rw turn peek }

pub passes_happen : (W : Type 0) → PassesHappen W
passes_happen W layout meaning run net keeps l i there would small may =
    let ends = link layout meaning l in
    let tells = pass_tells l (route_of layout l) net may in
    let low : (now : NetState) → NetKeeps layout meaning now → l < length now.lines =
    λ now kept. subst (λ (count : ℕ). l < count) (sym kept.line_count) there in
    let seen : (now : NetState) (phase : Phase) → NetKeeps layout meaning now → (line_at now l).phase ≡ phase
    → SeenAt phase (source_from layout now l ends.source).stage (target_from layout now l ends.target).stage =
    λ now phase kept at.
    let line = kept.lines l there in
    subst (λ (here : Phase). SeenAt here (source_from layout now l ends.source).stage (target_from layout now l ends.target).stage) at
    ((looks_keep Value).seen_tells _ _ _ _ _ line.in_order line.seen) in
    let in_place_at : (now : NetState) → NetKeeps layout meaning now → IsThere now l (route_of layout l) =
    λ now kept. links_are_there W layout meaning run now kept l there in
    let idle : (line_at net l).phase ≡ Idle = ap (λ (line : LinkState). line.phase) tells.idle in
    -- the offer
    let offer : MayHappen layout meaning (NetEvent.at_link l (Offer i)) net =
    record { enabled = sources_may W layout meaning run net keeps l (Offer i) there would; ids = small } in
    let step1 = step_at layout meaning l net there (Offer i) Idle (Offered i) idle refl in
    let net1 = after layout meaning (NetEvent.at_link l (Offer i)) net in
    let keeps1 = all_events_keep W layout meaning run net (NetEvent.at_link l (Offer i)) keeps offer in
    let phase1 = phase_then layout meaning l net (low net keeps) (Offer i) (Offered i) step1 in
    let is1 = moved_is layout meaning l net (low net keeps) (Offer i) (Offered i) step1 in
    -- the target wants it
    let peek1 : target_peek layout net1 l ends.target ≡ Some Want =
    ap (λ (now : NetState). target_peek layout now l ends.target) is1
    ∙ wants_next layout meaning l i net ends.source (line_after layout meaning l (Offer i) (Offered i) ends.source net) ends.target
    (in_place_at net keeps).target tells.apart tells.takes in
    let want : MayHappen layout meaning (NetEvent.at_link l Want) net1 =
    record { enabled = target_event layout meaning l net1 there Want (Offered i) (Wanted i) phase1 refl peek1 refl; ids = tt } in
    let step2 = step_at layout meaning l net1 there Want (Offered i) (Wanted i) phase1 refl in
    let net2 = after layout meaning (NetEvent.at_link l Want) net1 in
    let keeps2 = all_events_keep W layout meaning run net1 (NetEvent.at_link l Want) keeps1 want in
    let phase2 = phase_then layout meaning l net1 (low net1 keeps1) Want (Wanted i) step2 in
    let is2 = moved_is layout meaning l net1 (low net1 keeps1) Want (Wanted i) step2 in
    -- the source gives it
    let peek2 : source_peek layout net2 l ends.source ≡ Some Give =
    ap (λ (now : NetState). source_peek layout now l ends.source) is2
    ∙ gives_next layout meaning l i net1 ends.source ends.target (line_after layout meaning l Want (Wanted i) ends.source net1)
    (in_place_at net1 keeps1).source tells.apart
    (seen net1 (Offered i) keeps1 phase1).0 in
    let give : MayHappen layout meaning (NetEvent.at_link l Give) net2 =
    record { enabled = source_event layout meaning l net2 there Give (Wanted i) (Given i) phase2 refl peek2 refl; ids = tt } in
    let step3 = step_at layout meaning l net2 there Give (Wanted i) (Given i) phase2 refl in
    let net3 = after layout meaning (NetEvent.at_link l Give) net2 in
    let keeps3 = all_events_keep W layout meaning run net2 (NetEvent.at_link l Give) keeps2 give in
    let phase3 = phase_then layout meaning l net2 (low net2 keeps2) Give (Given i) step3 in
    -- the target opens it, and takes it
    let peek3 = opens_next layout meaning l i net3 ends.target (seen net3 (Given i) keeps3 phase3).1 in
    let open_it : MayHappen layout meaning (NetEvent.at_link l Open) net3 =
    record { enabled = target_event layout meaning l net3 there Open (Given i) (Opened i) phase3 refl peek3 refl; ids = tt } in
    let step4 = step_at layout meaning l net3 there Open (Given i) (Opened i) phase3 refl in
    let net4 = after layout meaning (NetEvent.at_link l Open) net3 in
    let keeps4 = all_events_keep W layout meaning run net3 (NetEvent.at_link l Open) keeps3 open_it in
    let phase4 = phase_then layout meaning l net3 (low net3 keeps3) Open (Opened i) step4 in
    let hand = (seen net4 (Opened i) keeps4 phase4).1 in
    let peek4 = closes_next layout meaning l i net4 ends.target hand.0 hand.1 in
    let close : MayHappen layout meaning (NetEvent.at_link l Close) net4 =
    record { enabled = target_event layout meaning l net4 there Close (Opened i) Idle phase4 refl peek4 refl; ids = tt } in
    record { offer = offer; want = want; give = give; open_it = open_it; close = close }
