-- A look of all ends of a network's links leaves the jobs of its blocks as they are.
use Rattle.std.proofs.Math.Seq.{map-set_same}
use Rattle.std.proofs.Common.{◌≡◌, ℕ, zero, suc, Bool, true, false, cond, List, length, map, get_or, Some, Result, refl, sym, ap, ◌∙◌, subst}
use Rattle.std.proofs.Math.ListN.{get_or-map}
use Rattle.flow_value.specs.declared.value.Value.{Value}
use Rattle.flow_value.specs.declared.work.WorkFault.{WorkFault}
use Rattle.flow_link.specs.declared.phase.Phase.{Phase}
use Rattle.flow_link.specs.declared.plan.LinkSource.{LinkSource}
use Rattle.flow_link.specs.declared.plan.LinkSource.TheVariants.{Block, Input}
use Rattle.flow_link.specs.declared.plan.LinkTarget.{LinkTarget}
use Rattle.flow_link.specs.declared.plan.LinkTarget.TheVariants.{Port, Exit}
use Rattle.flow_link.specs.Layout.{Layout}
use Rattle.flow_link.specs.Plan.{is_one_taker, link_in}
use Rattle.flow_block.specs.Copies.{CopyCall}
use Rattle.flow_block.specs.Jobs.{JobsState, is_out}
use Rattle.flow_block.specs.Node.{NodeState, NodeCall}
use Rattle.flow_block.specs.Planned.{out_place}
use Rattle.flow_core.specs.Events.{node_after, source_look, source_sees, target_sees}
use Rattle.flow_core.specs.InOrder.{all_looked}
use Rattle.flow_core.specs.State.{NetState, line_at, no_node, node_at}
use Rattle.flow_exec.specs.Works.{works_of}
use Rattle.flow_task.specs.Lefts.{TicketsAreOut}
use Rattle.flow_task.specs.Orders.{HasLookedAround}
use Rattle.flow_task.specs.Parts.{task_number}
use Rattle.flow_task.specs.declared.numbered.Task.{Task}

abbrev jobs_of : NodeState → JobsState
jobs_of node = node.block.jobs

abbrev all_jobs : NetState → List JobsState
all_jobs net = map jobs_of net.nodes

module _ {W : Type 0} (layout : Layout W) (meaning : ℕ → Value → Result (List Value) ℕ) where
  look_leaves : (b k : ℕ) (phase : Phase) (sharing : Bool) (node : NodeState) → is_one_taker node.block.kind ≡ sharing
      → jobs_of (node_after layout meaning b (Some (source_look node.block.kind k phase)) node) ≡ jobs_of node
  look_leaves b k phase true node shares =
      subst (λ (so : Bool).
      jobs_of (node_after layout meaning b (Some (cond so (NodeCall.look_out k phase) (NodeCall.copy (CopyCall.look k phase)))) node) ≡ jobs_of node)
      (sym shares) refl
  look_leaves b k phase false node copying =
      subst (λ (so : Bool).
      jobs_of (node_after layout meaning b (Some (cond so (NodeCall.look_out k phase) (NodeCall.copy (CopyCall.look k phase)))) node) ≡ jobs_of node)
      (sym copying) refl

  source_leaves : (l : ℕ) (phase : Phase) (source : LinkSource) (net : NetState)
      → all_jobs (source_sees layout meaning l phase source net) ≡ all_jobs net
  source_leaves l phase (Block s) net =
      map-set_same jobs_of net.nodes s _ no_node
      (look_leaves s (out_place layout s l) phase (is_one_taker (node_at net s).block.kind) (node_at net s) refl)
  source_leaves l phase (Input b) net = refl

  target_leaves : (l : ℕ) (phase : Phase) (target : LinkTarget) (net : NetState)
      → all_jobs (target_sees layout meaning l phase target net) ≡ all_jobs net
  target_leaves l phase (Port t p) net = map-set_same jobs_of net.nodes t _ no_node refl
  target_leaves l phase Exit net = refl

  looks_leave_jobs : (n : ℕ) (net : NetState) → all_jobs (all_looked layout meaning n net) ≡ all_jobs net
  looks_leave_jobs zero net = refl
  looks_leave_jobs (suc n) net =
      let before = all_looked layout meaning n net in
      let phase = (line_at before n).phase in
      source_leaves n phase (link_in layout.links n).source (target_sees layout meaning n phase (link_in layout.links n).target before)
      ∙ (target_leaves n phase (link_in layout.links n).target before ∙ looks_leave_jobs n net)

-- what is out before is out behind it
pub tickets_looked : {W : Type 0} {w : _} {e : _} (meaning : W → Value → Result (List Value) WorkFault) (layout : Layout W) (net new : NetState)
    → HasLookedAround meaning layout net new → (task : Task W w e) → TicketsAreOut net.nodes task → TicketsAreOut new.nodes task
tickets_looked meaning layout net new looked task out ticket stands =
    let start : NetState = record { nodes = net.nodes; inputs = net.inputs; exits = net.exits; lines = looked.0 } in
    let b = task_number task in
    let same : jobs_of (node_at new b) ≡ jobs_of (node_at net b) =
    sym (get_or-map jobs_of new.nodes b no_node)
    ∙ ap (λ (all : List JobsState). get_or all b (jobs_of no_node))
    (ap all_jobs looked.1 ∙ looks_leave_jobs layout (works_of meaning layout) (length layout.links) start)
    ∙ get_or-map jobs_of net.nodes b no_node in
    subst (λ (jobs : JobsState). is_out ticket jobs ≡ true) (sym same) (out ticket stands)
