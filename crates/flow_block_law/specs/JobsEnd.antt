-- When a job of a node may end, and that the node is then in order: its result comes back, and what is in order comes out.
use Rattle.std.specs.Prelude.{◌≡◌, ℕ, ◌<◌, true, false, List, length, Result}
use Rattle.flow_value.specs.declared.value.Value.{Value}
use Rattle.flow_link.specs.Layout.{Layout}
use Rattle.flow_outlet.specs.Outlet.{lacks_ids}
use Rattle.flow_block.specs.Block.{BlockState, port_at, made_of, job_message, ends_job, put_by_job}
use Rattle.flow_block.specs.Node.{NodeState, with_block, in_view, out_view, copy_view}
use Rattle.flow_block_law.specs.NodeLaw.{NodeLaw}
use Rattle.flow_block.specs.Peeks.{may_end}
use Rattle.flow_block.specs.Planned.{block_makes}

module _ (result : Value → Result (List Value) ℕ) where
  -- what the block's function makes of the message of a job
  abbrev pub job_result : ℕ → BlockState → Result (List Value) ℕ
  job_result ticket block = made_of block.kind result (job_message ticket block)

  abbrev pub after_job : ℕ → NodeState → NodeState
  after_job ticket node = with_block (ends_job ticket (job_result ticket node.block) node.block) node

  abbrev pub put_at_end : ℕ → BlockState → List Value
  put_at_end ticket block = put_by_job ticket (job_result ticket block) block

  -- there are ids left for what comes out
  pub record MayEndJob (ticket : ℕ) (node : NodeState) : Type 0 where
    pub out : may_end ticket node.block ≡ true
    pub ids : lacks_ids (put_at_end ticket node.block) node.block.exits ≡ false

-- no end of a link learns anything
pub record ViewsStay (node new : NodeState) : Type 0 where
  pub ins : (p k : ℕ) → p < length node.block.ports → k < length (port_at p node.block).ends → in_view p k new ≡ in_view p k node
  pub outs : (k : ℕ) → k < length node.block.exits.ends → out_view k new ≡ out_view k node
  pub copies : (k : ℕ) → k < length node.block.copies.ends → copy_view k new ≡ copy_view k node

module _ {W : Type 0} (layout : Layout W) (meaning : ℕ → Value → Result (List Value) ℕ) (b : ℕ) where
  pub record EndsWell (ticket : ℕ) (node : NodeState) : Type 0 where
    pub law : NodeLaw layout meaning b (after_job (block_makes layout meaning b) ticket node)
    pub views : ViewsStay node (after_job (block_makes layout meaning b) ticket node)

abbrev pub JobsEndWell : Type 0 → Type 0
JobsEndWell W =
    (layout : Layout W) (meaning : ℕ → Value → Result (List Value) ℕ) (b : ℕ) (node : NodeState) (ticket : ℕ)
    → NodeLaw layout meaning b node → MayEndJob (block_makes layout meaning b) ticket node
    → EndsWell layout meaning b ticket node
