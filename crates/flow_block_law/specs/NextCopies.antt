-- What a block that copies does next over one of its links: it may do it, it has its cause, and no other end learns of it.
use Rattle.std.specs.Prelude.{◌≡◌, ℕ, ◌<◌, ◌⊎◌, true, length, Option, Some, None}
use Rattle.flow_value.specs.declared.value.Value.{Value}
use Rattle.flow_link.specs.declared.phase.Move.{Move}
use Rattle.flow_link.specs.declared.phase.Move.TheVariants as move
use Rattle.flow_link.specs.Layout.{Layout}
use Rattle.flow_link.specs.Plan.{is_write_once}
use Rattle.flow_outlet.specs.End.{is_free}
use Rattle.flow_spread.specs.Spread.{end_at, link_at, stage_at, puts, is_at_rest, out_move}
use Rattle.flow_block_law.specs.Copier.{Copier}
use Rattle.flow_block.specs.Copies.{CopyCall, none_waits}
use Rattle.flow_block.specs.Node.{NodeState, NodeCall, copies_by}
use Rattle.flow_block_law.specs.NodeKeeps.{MayCopy}
use Rattle.flow_block.specs.Peeks.{is_pending, next_fault, is_copy_held_up}
use Rattle.flow_block_law.specs.ViewsMove.{ViewsMove}

-- what the end of a link over which copies go would do next
abbrev pub next_copy : ℕ → NodeState → Option Move
next_copy k node = out_move k node.block.stopped (is_copy_held_up node.block) node.block.copies

-- the move is the source's, and its call may be made; the element has the id that it was put with
abbrev pub MayMoveCopy : ℕ → NodeState → Move → Type 0
MayMoveCopy k node (move.Offer id) = (id ≡ node.block.copies.id) × MayCopy (CopyCall.offer k) node
MayMoveCopy k node move.Give = MayCopy (CopyCall.give k) node
MayMoveCopy k node move.Hold = MayCopy (CopyCall.hold k) node
MayMoveCopy k node move.Withdraw = MayCopy (CopyCall.withdraw k) node
MayMoveCopy k node (move.End how) = MayCopy (CopyCall.end_link k how) node
MayMoveCopy k node _ = ⊥

pub record CopiesHaveCauses (node : NodeState) : Type 0 where
  -- a free link that is still to have the element is offered it. Only a block that takes one element in all, and faults, has
  -- given that up
  pub offers : (k : ℕ) → k < length node.block.copies.ends → node.block.stopped ≡ None
      → (end_at node.block.copies k).owes ≡ true → is_free (stage_at node.block.copies k) ≡ true
      → (next_copy k node ≡ Some (move.Offer node.block.copies.id))
      ⊎ ((is_write_once node.block.kind ≡ true) × (is_pending node.block ≡ true))
  -- what waits is withdrawn only where it holds the block up
  pub withdraws : (k : ℕ) → next_copy k node ≡ Some move.Withdraw → is_copy_held_up node.block ≡ true
  -- it faults when no copy is under way
  pub faults : (number : ℕ) → next_fault node.block ≡ Some number → is_at_rest node.block.copies ≡ true

-- a new element leaves each link where it stands: nobody waits for the last one
abbrev pub PutsMoveNone : Type 0
PutsMoveNone =
    (value : Value) (node : NodeState) (k : ℕ) → k < length node.block.copies.ends → none_waits node.block.copies ≡ true
    → link_at (puts value node.block.copies) k ≡ link_at node.block.copies k

module _ (W : Type 0) where
  -- a fact of each node whose block copies
  abbrev pub OfCopiers : (NodeState → Type 0) → Type 0
  OfCopiers P = (layout : Layout W) (b : ℕ) (node : NodeState) → Copier layout b node.block node.journal → P node

  abbrev pub NextCopiesMay : Type 0
  NextCopiesMay =
      OfCopiers (λ node. (k : ℕ) (next : Move) → k < length node.block.copies.ends → next_copy k node ≡ Some next
      → MayMoveCopy k node next)

  abbrev pub NextCopiesHaveCauses : Type 0
  NextCopiesHaveCauses = OfCopiers CopiesHaveCauses

  abbrev pub CopiesMoveViews : Type 0
  CopiesMoveViews =
      OfCopiers (λ node. (call : CopyCall) → MayCopy call node → ViewsMove (NodeCall.copy call) node (copies_by call node))
