-- A node as a part of a run: its trace is the block's, and its ends know what the ends of its links know there. A node in order
-- then keeps what a block of a lawful run keeps; what takes one message in all owes it to no link that may carry none.
use Rattle.std.specs.Prelude.{◌≡◌, ℕ, ◌<◌, true, false, [], length}
use Rattle.flow_link.specs.declared.plan.LinkSource.TheVariants.{Block}
use Rattle.flow_link.specs.declared.plan.LinkTarget.TheVariants.{Port}
use Rattle.flow_lawful.specs.Composes.{Ends, NodeKeeps}
use Rattle.flow_link.specs.Trace.{Run, link_of, trace_of, is_used_up}
use Rattle.flow_link.specs.Plan.{is_write_once}
use Rattle.flow_block.specs.Node.{NodeState, in_view, source_view, node_trace}
use Rattle.flow_block_law.specs.NodeLaw.{NodeLaw}
use Rattle.flow_block.specs.Planned.{in_place, out_place}

module _ {W : Type 0} (run : Run W) (ends : ℕ → Ends) where
  pub record IsNodeOf (b : ℕ) (node : NodeState) : Type 0 where
    pub trace : trace_of run b ≡ node_trace node
    pub sources : (l : ℕ) → l < length run.layout.links → (link_of run l).source ≡ Block b
        → (ends l).source ≡ source_view (out_place run.layout b l) node
    pub targets : (l p : ℕ) → l < length run.layout.links → (link_of run l).target ≡ Port b p
        → (ends l).target ≡ in_view p (in_place run.layout b p l) node

-- each link out of a block may carry something
abbrev pub EachMayCarry : {W : Type 0} → Run W → ℕ → Type 0
EachMayCarry run b =
    (l : ℕ) → l < length run.layout.links → (link_of run l).source ≡ Block b → is_used_up (link_of run l).max [] ≡ false

abbrev pub NodesAreLawful : Type 0 → Type 0
NodesAreLawful W =
    (run : Run W) (ends : ℕ → Ends) (b : ℕ) (node : NodeState) → b < length run.layout.blocks
    → NodeLaw run.layout run.meaning b node → IsNodeOf run ends b node
    → ((l p : ℕ) → l < length run.layout.links → (link_of run l).target ≡ Port b p → p < length node.block.ports)
    → (is_write_once node.block.kind ≡ true → EachMayCarry run b)
    → NodeKeeps run ends b
