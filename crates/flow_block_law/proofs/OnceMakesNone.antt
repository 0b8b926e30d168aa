-- A block that takes one message in all copies it when it takes it: it never has something to make.
use Rattle.std.proofs.Common.{◌≡◌, ℕ, true, false, not, ◌&&◌, List, [], is_none, Result, ap, ◌∙◌, sym}
use Rattle.std.proofs.lemmas.Bool.{and_parts, false_from_ne_true}
use Rattle.flow_value.specs.declared.value.Value.{Value}
use Rattle.flow_link.specs.Plan.{is_write_once}
use Rattle.flow_link.proofs.KindsTell.{one_copy_is}
use Rattle.flow_outlet.specs.Outlet.{is_empty}
use Rattle.flow_link.specs.Layout.{Layout}
use Rattle.flow_link.specs.declared.kinds.BlockUnit.{BlockUnit}
use Rattle.flow_link.specs.declared.kinds.BlockUnit.TheVariants as unit
use Rattle.flow_link.specs.Kinds.{unit_of}
use Rattle.flow_block.specs.Peeks.{may_work, has_next, has_unit, may_copy}
use Rattle.flow_block_law.specs.NodeLaw.{NodeLaw}
use Rattle.flow_block.specs.Block.{BlockState, held_by}
use Rattle.flow_block.specs.Node.{NodeState}

-- it never has something to make
pub none_next : (block : BlockState) → is_write_once block.kind ≡ true → (is_write_once block.kind ≡ true → held_by block ≡ [])
    → may_work block ≡ true → ⊥
none_next block once none may =
    let goes = and_parts (is_none block.stopped && is_none block.fault) (has_next block) may in
    let next : has_unit unit.OneCopy block ≡ true =
    ap (λ (u : BlockUnit). has_unit u block) (sym (one_copy_is (unit_of block.kind) once)) ∙ goes.1 in
    let never : false ≡ true = ap (λ (held : List Value). not (is_empty held) && may_copy block) (sym (none once)) ∙ next in
    absurd (cc)

pub makes_many : {W : Type 0} (layout : Layout W) (meaning : ℕ → Value → Result (List Value) ℕ) (b : ℕ) (node : NodeState)
    → NodeLaw layout meaning b node → may_work node.block ≡ true → is_write_once node.block.kind ≡ false
makes_many layout meaning b node law may =
    false_from_ne_true (is_write_once node.block.kind) (λ once. none_next node.block once law.none_held may)
