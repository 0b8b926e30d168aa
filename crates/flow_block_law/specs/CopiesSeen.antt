-- A block that copies as a part of a run: what its node knows of its element and its links is what the laws of a run say of a
-- broadcast or write-once block.
use Rattle.std.specs.Prelude.{◌≡◌, ℕ, ◌+◌, ◌<◌, true, false, [], length, Some, None}
use Rattle.flow_link.specs.declared.plan.LinkSource.TheVariants.{Block}
use Rattle.flow_link.specs.declared.trace.Outcome.TheVariants.{Done}
use Rattle.flow_lawful.specs.Composes.{Ends, SourceKeeps, as_seen}
use Rattle.flow_link.specs.Copies.{copies as copies_well}
use Rattle.flow_lawful.specs.Law.{takes_level, keeps_link_order}
use Rattle.flow_link.specs.Making.{makes as makes_well, load as load_at}
use Rattle.flow_link.specs.Plan.{is_one_taker, is_write_once}
use Rattle.flow_lawful.specs.Quiet.{has_served_all}
use Rattle.flow_lawful.specs.RestsByParts.{OutletRests, is_to_hand_over, is_wished_for}
use Rattle.flow_link.specs.Trace.{Run, block_of, link_of, trace_of, left_at, is_used_up}
use Rattle.flow_outlet.specs.Outlet.{is_empty}
use Rattle.flow_spread.specs.Spread.{stage_at, is_at_rest, only_waits as all_wait}
use Rattle.flow_block.specs.Block.{held_by, port_at}
use Rattle.flow_block_law.specs.Copier.{Copier}
use Rattle.flow_block.specs.Copies.{copies_left, may_put as may_put_next}
use Rattle.flow_block_law.specs.NextCopies.{next_copy}
use Rattle.flow_block.specs.Node.{NodeState, copy_view, node_trace, left_in}
use Rattle.flow_block_law.specs.NodeLaw.{outcome_in}
use Rattle.flow_link.specs.Stage.{rests_out}
use Rattle.flow_block.specs.Peeks.{is_pending, is_copy_held_up}
use Rattle.flow_block.specs.Planned.{out_place}

module _ {W : Type 0} (run : Run W) (ends : ℕ → Ends) (b : ℕ) (node : NodeState) where
  -- the node's trace is the block's, its ends know what the links' ends know there, and its block copies in order
  pub record IsCopierOf : Type 0 where
    pub trace : trace_of run b ≡ node_trace node
    pub kind_is : node.block.kind ≡ (block_of run b).kind
    pub copying : is_one_taker node.block.kind ≡ false
    pub sources : (l : ℕ) → l < length run.layout.links → (link_of run l).source ≡ Block b
        → (ends l).source ≡ copy_view (out_place run.layout b l) node
    pub law : Copier run.layout b node.block node.journal
    pub stopped_is : node.block.stopped ≡ outcome_in node.journal

  -- each link may carry something
  abbrev pub MayCarry : Type 0
  MayCarry = (l : ℕ) → l < length run.layout.links → (link_of run l).source ≡ Block b → is_used_up (link_of run l).max [] ≡ false

  -- what takes one message in all puts it at once
  pub record PutsAtOnce : Type 0 where
    pub none_held : held_by node.block ≡ []
    pub carries : MayCarry

  pub record CopierSeen : Type 0 where
    -- its links carry copies of what it took, and nothing is skipped that a target took in time
    pub copies : (is_write_once node.block.kind ≡ true → PutsAtOnce) → copies_well (as_seen run ends) b ≡ true
    pub makes : makes_well run b ≡ true
    pub sources : (l : ℕ) → l < length run.layout.links → (link_of run l).source ≡ Block b → SourceKeeps run ends l b
    pub order : keeps_link_order (as_seen run ends) b ≡ true
    pub level : takes_level run b ≡ true
    -- a place is taken by each message that waits, and by the element while some link is still to have it
    pub load : (p : ℕ) → load_at run b p ≡ length (port_at p node.block).waiting + copies_left node.block.copies
    pub left : length (left_in node.block) ≡ copies_left node.block.copies
    -- one that is done has nothing left
    pub done : node.block.stopped ≡ Some Done → left_at run b ≡ []

  -- no end of a link out of it has a move
  abbrev pub NoCopyMoves : Type 0
  NoCopyMoves = (k : ℕ) → k < length node.block.copies.ends → next_copy k node ≡ None

  -- nothing is under way there
  abbrev pub CopiesAtRest : Type 0
  CopiesAtRest = (k : ℕ) → k < length node.block.copies.ends → rests_out (stage_at node.block.copies k) ≡ true

  pub record CopierStill : Type 0 where
    pub gives : (l : ℕ) → l < length run.layout.links → (link_of run l).source ≡ Block b
        → is_to_hand_over (ends l).source.stage ≡ false
    pub answers : (l : ℕ) → l < length run.layout.links → (link_of run l).source ≡ Block b
        → is_wished_for (ends l).source.stage ≡ false

  pub record CopierRests : Type 0 where
    pub only_waits : all_wait node.block.copies ≡ true
    -- what it would do but for offers that wait, it may do
    pub at_rest : is_copy_held_up node.block ≡ true → is_at_rest node.block.copies ≡ true
    -- what copies each message over the last one may copy the next, until it has stopped
    pub none_left : is_write_once node.block.kind ≡ false → node.block.stopped ≡ None → copies_left node.block.copies ≡ 0
    pub may_put : is_write_once node.block.kind ≡ false → node.block.stopped ≡ None → is_empty (held_by node.block) ≡ false
        → may_put_next node.block.copies ≡ true
    -- its links are over that it is done with, and over each other one nothing is left to offer
    pub outlet : (node.block.stopped ≡ None → is_pending node.block ≡ false) → MayCarry → OutletRests run ends b
    pub served : has_served_all run b ≡ true

module _ (W : Type 0) where
  -- a fact of each block that copies
  abbrev pub OfCopiersSeen : ((run : Run W) → (ℕ → Ends) → ℕ → NodeState → Type 0) → Type 0
  OfCopiersSeen P = (run : Run W) (ends : ℕ → Ends) (b : ℕ) (node : NodeState) → IsCopierOf run ends b node → P run ends b node

  abbrev pub CopiersAreParts : Type 0
  CopiersAreParts = OfCopiersSeen (λ run ends b node. CopierSeen run ends b node)

  abbrev pub CopiersAreStill : Type 0
  CopiersAreStill = OfCopiersSeen (λ run ends b node. NoCopyMoves run ends b node → CopierStill run ends b node)

  abbrev pub CopiersRest : Type 0
  CopiersRest =
      OfCopiersSeen (λ run ends b node. NoCopyMoves run ends b node → CopiesAtRest run ends b node
      → CopierRests run ends b node)
