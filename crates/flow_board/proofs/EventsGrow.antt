-- Whatever happens in a network, the journals of its blocks go on.
use Rattle.std.specs.Coded.{codes}
use Rattle.flow_value.specs.contracts.value.Value as content
use Rattle.flow_exit.specs.Exit.{CallerState}
use Rattle.std.proofs.Common.{◌≡◌, ℕ, zero, suc, Bool, true, false, List, [], length, ⊎_elim, get_or, Option, Some, None, option_map, Result, sym, ap, ◌∙◌, subst}
use Rattle.std.proofs.Math.ListN.{get_or-map}
use Rattle.std.proofs.Math.Logic.{∥∥₁_elim}
use Rattle.flow_value.specs.declared.value.Value.{Value}
use Rattle.flow_value.specs.declared.work.WorkFault.{WorkFault}
use Rattle.flow_link.proofs.PlacesTell.{element_set}
use Rattle.flow_link.specs.Layout.{Layout}
use Rattle.flow_link.specs.Phase.{phase_after}
use Rattle.flow_link.specs.Plan.{link_in}
use Rattle.flow_link.specs.declared.phase.Move.{Move}
use Rattle.flow_link.specs.declared.phase.Phase.{Phase}
use Rattle.flow_link.specs.declared.plan.Link.{Link}
use Rattle.flow_link.specs.declared.plan.LinkSource.{LinkSource}
use Rattle.flow_link.specs.declared.plan.LinkSource.TheVariants.{Block, Input}
use Rattle.flow_link.specs.declared.plan.LinkTarget.{LinkTarget}
use Rattle.flow_link.specs.declared.plan.LinkTarget.TheVariants.{Port, Exit}
use Rattle.flow_link.specs.declared.trace.Mark.{Mark}
use Rattle.flow_block.specs.Node.{NodeCall, NodeState}
use Rattle.flow_block.specs.Peeks.{next_fault}
use Rattle.flow_block.specs.Planned.{block_makes, in_place, out_place}
use Rattle.flow_block_law.specs.JobsEnd.{after_job}
use Rattle.flow_core.specs.Events.{NetEvent, after, after_move, in_call, is_of_source, line_after, moved_by, node_after, source_call, source_look, source_moves, source_sees, target_moves, target_sees, with_line, with_node}
use Rattle.flow_core.specs.InOrder.{journals_of}
use Rattle.flow_core.specs.State.{NetState, callers_in, line_at, no_node, node_at}
use Rattle.flow_exec.specs.Works.{works_of}
use Rattle.flow_net.specs.Happened.{Happened}
use Rattle.flow_poll.specs.Turns.{Extends}
use Rattle.flow_poll.proofs.EachGoes.{extends_further, extends_itself}
use Rattle.flow_task.specs.Begun.{JournalsExtend}
use Rattle.flow_net.proofs.NoneAsked.{callers_looked, callers_on}
use Rattle.flow_board.specs.Home.{HasComeBack, HasComeHome, TakenHome}
use Rattle.flow_task.proofs.JournalsGrow.{grows}
use Rattle.flow_task.proofs.TurnsGrow.{extends_prop}

Callers-set : IsSet (List CallerState)
Callers-set = Prim.hlevel (codes, content.the_row.coded)

callers_prop : (one other : List CallerState) → IsProp (one ≡ other)
callers_prop one other = Callers-set one other

-- the journal of this block in one network goes on in another
abbrev GoesOnAt : ℕ → NetState → NetState → Type 0
GoesOnAt b old new = Extends (node_at old b).journal (node_at new b).journal

module _ {W : Type 0} (layout : Layout W) (meaning : ℕ → Value → Result (List Value) ℕ) (b : ℕ) where
  -- another node stands at a place
  one_grows : (s : ℕ) (net : NetState) (node : NodeState) → Extends (node_at net s).journal node.journal
      → GoesOnAt b net (with_node s (λ old. node) net)
  one_grows s net node goes =
      element_set (λ i now. Extends (node_at net i).journal now.journal) net.nodes s b node no_node
      (λ same. subst (λ (i : ℕ). Extends (node_at net i).journal node.journal) (sym same) goes)
      (extends_itself (node_at net b).journal)

  call_grows : (s : ℕ) (call : Option NodeCall) (node : NodeState) → Extends node.journal (node_after layout meaning s call node).journal
  call_grows s None node = extends_itself node.journal
  call_grows s (Some call) node = grows (block_makes layout meaning s) call node

  node_grows : (s : ℕ) (call : Option NodeCall) (net : NetState) → GoesOnAt b net (with_node s (node_after layout meaning s call) net)
  node_grows s call net =
      one_grows s net (node_after layout meaning s call (node_at net s)) (call_grows s call (node_at net s))

  -- a move, and a look
  source_moved : (l : ℕ) (next : Move) (source : LinkSource) (net : NetState) → GoesOnAt b net (source_moves layout meaning l next source net)
  source_moved l next (Block s) net = node_grows s (source_call (node_at net s).block.kind (out_place layout s l) next) net
  source_moved l next (Input i) net = extends_itself (node_at net b).journal

  target_moved : (l : ℕ) (next : Move) (target : LinkTarget) (net : NetState) → GoesOnAt b net (target_moves layout meaning l next target net)
  target_moved l next (Port t p) net = node_grows t (in_call p (in_place layout t p l) (line_at net l).slot next) net
  target_moved l next Exit net = extends_itself (node_at net b).journal

  source_saw : (l : ℕ) (phase : Phase) (source : LinkSource) (net : NetState) → GoesOnAt b net (source_sees layout meaning l phase source net)
  source_saw l phase (Block s) net = node_grows s (Some (source_look (node_at net s).block.kind (out_place layout s l) phase)) net
  source_saw l phase (Input i) net = extends_itself (node_at net b).journal

  target_saw : (l : ℕ) (phase : Phase) (target : LinkTarget) (net : NetState) → GoesOnAt b net (target_sees layout meaning l phase target net)
  target_saw l phase (Port t p) net = node_grows t (Some (NodeCall.look_in p (in_place layout t p l) phase)) net
  target_saw l phase Exit net = extends_itself (node_at net b).journal

  moved : (of_source : Bool) (l : ℕ) (next : Move) (phase : Phase) (link : Link) (net : NetState)
      → GoesOnAt b net (moved_by layout meaning of_source l next phase link net)
  moved true l next phase link net =
      let mid = source_moves layout meaning l next link.source net in
      extends_further (node_at net b).journal (node_at mid b).journal _ (source_moved l next link.source net)
      (target_saw l phase link.target (with_line l (line_after layout meaning l next phase link.source net) mid))
  moved false l next phase link net =
      let mid = target_moves layout meaning l next link.target net in
      extends_further (node_at net b).journal (node_at mid b).journal _ (target_moved l next link.target net)
      (source_saw l phase link.source (with_line l (line_after layout meaning l next phase link.source net) mid))

  move_grows : (l : ℕ) (next : Move) (phase : Option Phase) (net : NetState) → GoesOnAt b net (after_move layout meaning l next phase net)
  move_grows l next None net = extends_itself (node_at net b).journal
  move_grows l next (Some phase) net = moved (is_of_source next) l next phase (link_in layout.links l) net

  pub event_grows : (net : NetState) (event : NetEvent) → GoesOnAt b net (after layout meaning event net)
  event_grows net (NetEvent.at_link l next) = move_grows l next (phase_after (line_at net l).phase next) net
  event_grows net (NetEvent.make s) = node_grows s (Some NodeCall.make) net
  event_grows net (NetEvent.begin s) = node_grows s (Some NodeCall.begin) net
  event_grows net (NetEvent.end_job s ticket) =
      one_grows s net (after_job (block_makes layout meaning s) ticket (node_at net s)) (extends_itself (node_at net s).journal)
  event_grows net (NetEvent.complete s p) = node_grows s (Some (NodeCall.complete p)) net
  event_grows net (NetEvent.fault s) = node_grows s (option_map NodeCall.fault (next_fault (node_at net s).block)) net
  event_grows net (NetEvent.finish s) = node_grows s (Some NodeCall.finish) net

  pub happened_grows : (count : ℕ) (old new : NetState) → Happened layout meaning count old new → GoesOnAt b old new
  happened_grows zero old new same = subst (GoesOnAt b old) (sym same) (extends_itself (node_at old b).journal)
  happened_grows (suc n) old new (mid, (before, last)) =
      extends_further (node_at old b).journal (node_at mid b).journal (node_at new b).journal (happened_grows n old mid before)
      (subst (GoesOnAt b mid) (sym last.new_is) (event_grows mid last.event))

module _ {W : Type 0} (layout : Layout W) (meaning : ℕ → Value → Result (List Value) ℕ) where
  -- each move that brings home is an event
  pub home_happens : (n : ℕ) (old new : NetState) → TakenHome layout meaning n old new → Happened layout meaning n old new
  home_happens zero old new same = same
  home_happens (suc n) old new (mid, (before, last)) = (
    mid,
    (home_happens n old mid before, record { event = NetEvent.at_link last.link last.next; may = last.may; new_is = last.new_is }),
  )

module _ {W : Type 0} (layout : Layout W) where
  pub home_extends : (works : W → Value → Result (List Value) WorkFault) (old new : NetState) → HasComeHome works layout old new
      → JournalsExtend layout old new
  home_extends works old new come b low =
      ∥∥₁_elim come (extends_prop (node_at old b).journal (node_at new b).journal) (λ home.
      happened_grows layout (works_of works layout) b home.0 old new (home_happens layout (works_of works layout) home.0 old new home.1))

  -- nothing is received or asked for meanwhile
  pub home_callers : (works : W → Value → Result (List Value) WorkFault) (old new : NetState) → HasComeHome works layout old new
      → callers_in new ≡ callers_in old
  home_callers works old new come =
      ∥∥₁_elim come (callers_prop (callers_in new) (callers_in old)) (λ home.
      callers_on layout (works_of works layout) home.0 old new
      (home_happens layout (works_of works layout) home.0 old new home.1))

  pub back_callers : (works : W → Value → Result (List Value) WorkFault) (old new : NetState) → HasComeBack works layout old new
      → callers_in new ≡ callers_in old
  back_callers works old new come =
      ∥∥₁_elim come (callers_prop (callers_in new) (callers_in old)) (λ back.
      ⊎_elim (λ same. ap callers_in same)
      (λ looked. ap callers_in looked.1 ∙ callers_looked layout (works_of works layout) (length layout.links)
      (record { nodes = back.0.nodes; inputs = back.0.inputs; exits = back.0.exits; lines = looked.0 }))
      back.1.1
      ∙ home_callers works old back.0 back.1.0)

  -- where the marks are the same, they go on too
  pub same_extends : (old mid new : NetState) → journals_of new ≡ journals_of mid → JournalsExtend layout old mid → JournalsExtend layout old new
  same_extends old mid new same goes b low =
      let at : (node_at new b).journal ≡ (node_at mid b).journal =
      sym (get_or-map (λ (node : NodeState). node.journal) new.nodes b no_node) ∙ ap (λ (journals : List (List Mark)). get_or journals b []) same
      ∙ get_or-map (λ (node : NodeState). node.journal) mid.nodes b no_node in
      subst (Extends (node_at old b).journal) (sym at) (goes b low)

  pub extends_on : (old mid new : NetState) → JournalsExtend layout old mid → JournalsExtend layout mid new → JournalsExtend layout old new
  extends_on old mid new first then b low =
      extends_further (node_at old b).journal (node_at mid b).journal (node_at new b).journal (first b low) (then b low)
