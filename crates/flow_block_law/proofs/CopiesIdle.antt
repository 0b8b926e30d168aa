-- A block that shares its messages out copies none: no link is there over which copies could go.
use Rattle.std.proofs.Common.{◌≡◌, ℕ, ◌<◌, Bool, true, false, List, [], length, Result, refl, ap, arith}
use Rattle.flow_value.specs.declared.value.Value.{Value}
use Rattle.flow_link.specs.Layout.{Layout}
use Rattle.flow_link.specs.Plan.{is_one_taker}
use Rattle.flow_spread.specs.Spread.{SpreadState, fresh_spread}
use Rattle.flow_block.specs.Copies.{copies_left}
use Rattle.flow_block.specs.Node.{NodeState, left_in, out_view, source_view}
use Rattle.flow_block_law.specs.NodeLaw.{NodeLaw}

module _ {W : Type 0} (layout : Layout W) (meaning : ℕ → Value → Result (List Value) ℕ) (b : ℕ) (node : NodeState)
    (law : NodeLaw layout meaning b node) (shares : is_one_taker node.block.kind ≡ true) where
  pub copies_idle : node.block.copies ≡ fresh_spread false [] 1
  copies_idle = law.copies.idle shares

  pub none_copied : copies_left node.block.copies ≡ 0
  none_copied = ap copies_left copies_idle

  pub no_copy_at : (k : ℕ) → k < length node.block.copies.ends → ⊥
  no_copy_at k there =
      let none : length node.block.copies.ends ≡ 0 = ap (λ (copies : SpreadState). length copies.ends) copies_idle in
      omega (arith, none, there)

  pub left_is_shared : left_in node.block ≡ node.block.exits.left
  left_is_shared = rw shares refl

  pub view_is_shared : (k : ℕ) → source_view k node ≡ out_view k node
  view_is_shared k = rw shares refl

-- where there is a link over which copies go, the block copies
module _ {W : Type 0} (layout : Layout W) (meaning : ℕ → Value → Result (List Value) ℕ) (b : ℕ) (node : NodeState)
    (law : NodeLaw layout meaning b node) where
  pub copies_at : (k : ℕ) → k < length node.block.copies.ends → is_one_taker node.block.kind ≡ false
  copies_at k there = by_test (is_one_taker node.block.kind) refl
    where
      by_test : (sharing : Bool) → is_one_taker node.block.kind ≡ sharing → sharing ≡ false
      by_test true is = absurd (no_copy_at layout meaning b node law is k there)
      by_test false is = refl
