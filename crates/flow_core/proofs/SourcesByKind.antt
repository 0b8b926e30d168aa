-- What the source's end of a link knows and does, by whether its block shares its messages out or copies them.
use Rattle.std.proofs.Common.{◌≡◌, ℕ, Bool, true, false, List, Result, refl, ap, sym, ◌∙◌}
use Rattle.flow_value.specs.declared.value.Value.{Value}
use Rattle.flow_link.specs.Layout.{Layout}
use Rattle.flow_link.specs.Plan.{is_one_taker}
use Rattle.flow_block_law.specs.NextCopies.{next_copy}
use Rattle.flow_block_law.specs.NextMoves.{next_source, next_out}
use Rattle.flow_block.specs.Node.{NodeState, source_view, out_view, copy_view}
use Rattle.flow_block_law.specs.NodeLaw.{NodeLaw}

pub shared_view : (k : ℕ) (node : NodeState) → is_one_taker node.block.kind ≡ true → source_view k node ≡ out_view k node
shared_view k node shares = rw shares refl

pub copied_view : (k : ℕ) (node : NodeState) → is_one_taker node.block.kind ≡ false → source_view k node ≡ copy_view k node
copied_view k node copying = rw copying refl

pub shared_next : (k : ℕ) (node : NodeState) → is_one_taker node.block.kind ≡ true → next_source k node ≡ next_out k node
shared_next k node shares = rw shares refl

pub copied_next : (k : ℕ) (node : NodeState) → is_one_taker node.block.kind ≡ false → next_source k node ≡ next_copy k node
copied_next k node copying = rw copying refl

-- a node in order stays of its kind
pub same_kind : {W : Type 0} (layout : Layout W) (meaning : ℕ → Value → Result (List Value) ℕ) (b : ℕ) (node new : NodeState)
    → NodeLaw layout meaning b node → NodeLaw layout meaning b new → (sharing : Bool) → is_one_taker node.block.kind ≡ sharing
    → is_one_taker new.block.kind ≡ sharing
same_kind layout meaning b node new law later sharing is =
    ap is_one_taker (later.shape.kind_is ∙ sym law.shape.kind_is) ∙ is
