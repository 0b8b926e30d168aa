-- A node that has nothing to do is still, and it rests when its links do.
use Rattle.std.specs.Prelude.{◌≡◌, ℕ, ◌<◌, Bool, true, false, length, None}
use Rattle.flow_link.specs.declared.plan.LinkTarget.TheVariants.{Port}
use Rattle.flow_link.specs.declared.stage.TargetStage.{TargetStage}
use Rattle.flow_link.specs.declared.stage.TargetStage.TheVariants as target
use Rattle.flow_lawful.specs.Composes.{Ends}
use Rattle.flow_lawful.specs.RestsByParts.{NodeIsStill, NodeRests, is_holding}
use Rattle.flow_link.specs.Plan.{is_reserving as joins_by_rounds}
use Rattle.flow_link.specs.Stage.{rests_out}
use Rattle.flow_link.specs.Trace.{Run, block_of, link_of}
use Rattle.flow_intake.specs.Port.{stage_at as port_stage}
use Rattle.flow_outlet.specs.Outlet.{stage_at}
use Rattle.flow_spread.specs.Spread.{stage_at as copy_stage}
use Rattle.flow_block.specs.Block.{port_at}
use Rattle.flow_block_law.specs.NextCopies.{next_copy}
use Rattle.flow_block_law.specs.NextMoves.{next_in, next_out}
use Rattle.flow_block.specs.Node.{NodeState}
use Rattle.flow_block_law.specs.NodeLaw.{NodeLaw}
use Rattle.flow_block_law.specs.NodeSeen.{IsNodeOf, EachMayCarry}
use Rattle.flow_block.specs.Peeks.{may_make, may_begin, may_end, may_complete, next_fault, may_finish}

-- nothing that it could do
pub record HasNothingToDo (node : NodeState) : Type 0 where
  pub ins : (p k : ℕ) → p < length node.block.ports → k < length (port_at p node.block).ends → next_in p k node ≡ None
  pub outs : (k : ℕ) → k < length node.block.exits.ends → next_out k node ≡ None
  pub copies : (k : ℕ) → k < length node.block.copies.ends → next_copy k node ≡ None
  pub makes : may_make node.block ≡ false
  pub begins : may_begin node.block ≡ false
  pub ends : (ticket : ℕ) → may_end ticket node.block ≡ false
  pub completes : (p : ℕ) → p < length node.block.ports → may_complete p node.block ≡ false
  pub faults : next_fault node.block ≡ None
  pub finishes : may_finish node.block ≡ false

-- nothing is under way at an end, though an offer may wait there
abbrev pub rests_in : TargetStage → Bool
rests_in target.Free = true
rests_in (target.Postponed _) = true
rests_in (target.Refused _) = true
rests_in (target.Ended _) = true
rests_in _ = false

pub record EndsRest (node : NodeState) : Type 0 where
  pub ins : (p k : ℕ) → p < length node.block.ports → k < length (port_at p node.block).ends
      → rests_in (port_stage k (port_at p node.block)) ≡ true
  pub outs : (k : ℕ) → k < length node.block.exits.ends → rests_out (stage_at node.block.exits k) ≡ true
  pub copies : (k : ℕ) → k < length node.block.copies.ends → rests_out (copy_stage node.block.copies k) ≡ true

-- only for a join that reserves is a message kept
abbrev pub HoldsByPlan : {W : Type 0} → Run W → (ℕ → Ends) → ℕ → Type 0
HoldsByPlan run ends b =
    (l p : ℕ) → l < length run.layout.links → (link_of run l).target ≡ Port b p → is_holding (ends l).target.stage ≡ true
    → joins_by_rounds (block_of run b) ≡ true

module _ (W : Type 0) where
  -- what is known of a node of a run
  abbrev pub OfEachNode : ((run : Run W) → (ℕ → Ends) → ℕ → NodeState → Type 0) → Type 0
  OfEachNode P =
      (run : Run W) (ends : ℕ → Ends) (b : ℕ) (node : NodeState) → b < length run.layout.blocks
      → NodeLaw run.layout run.meaning b node → IsNodeOf run ends b node
      → ((l p : ℕ) → l < length run.layout.links → (link_of run l).target ≡ Port b p → p < length node.block.ports)
      → HasNothingToDo node → P run ends b node

  abbrev pub NodesAreStill : Type 0
  NodesAreStill = OfEachNode (λ run ends b node. HoldsByPlan run ends b → NodeIsStill run ends b)

  abbrev pub NodesRest : Type 0
  NodesRest = OfEachNode (λ run ends b node. EndsRest node → EachMayCarry run b → NodeRests run ends b)
