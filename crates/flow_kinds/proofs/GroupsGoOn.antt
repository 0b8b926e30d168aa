-- A batched join that has a next group has not ended, and while a port is open the group is whole.
use Rattle.std.proofs.Common.{Bool, ◌≡◌, ◌≤◌, leb, ltb, true, false, not, ◌&&◌, ◌||◌, length, None, is_none, refl, ap, sym, ◌∙◌, arith}
use Rattle.std.proofs.lemmas.Bool.{and_parts, leb-true}
use Rattle.flow_link.specs.declared.draft.BlockKind.{BlockKind}
use Rattle.flow_link.specs.declared.draft.BlockKind.TheVariants.{BatchedJoin}
use Rattle.flow_link.specs.Plan.{has_work}
use Rattle.flow_link.specs.Kinds.{unit_of}
use Rattle.flow_group.specs.Tuple.{all_ended}
use Rattle.flow_block.specs.Block.{BlockState}
use Rattle.flow_block.specs.Groups.{waiting_in_all}
use Rattle.flow_block.specs.Peeks.{has_next, has_group_of_ports, may_work, may_make, has_unit}
use Rattle.flow_block.specs.Traits.{outcome_of}
use Rattle.flow_group.specs.Group.{ArrivalsState}
use Rattle.flow_kinds.specs.BatchedJoin.{JoinFits}
use Rattle.flow_kinds.proofs.OrderTells.{told_in_all}
use Rattle.flow_block.proofs.MakingGoesOn.{working_goes_on}

next_is_group : (block : BlockState) → block.kind ≡ BatchedJoin → has_next block ≡ has_group_of_ports block
next_is_group block joins =
    ap (λ (k : BlockKind). has_unit (unit_of k) block) joins

pub grouping_goes_on : (block : BlockState) → may_make block ≡ true → outcome_of block ≡ None
grouping_goes_on block may = working_goes_on block (and_parts (may_work block) (not (has_work block.kind)) may).0

-- while a port is open
pub groups_are_whole : (block : BlockState) (order : ArrivalsState) → JoinFits block order → may_make block ≡ true → all_ended block.ports ≡ false
    → block.size ≤ length order.ports
groups_are_whole block order fits may unended =
    let makes = and_parts (may_work block) (not (has_work block.kind)) may in
    let works = and_parts (is_none block.stopped && is_none block.fault) (has_next block) makes.0 in
    let group : has_group_of_ports block ≡ true = sym (next_is_group block fits.kind_is) ∙ works.1 in
    let enough = (and_parts (ltb 0 (waiting_in_all block.ports)) (leb block.size (waiting_in_all block.ports) || all_ended block.ports) group).1 in
    let whole : leb block.size (waiting_in_all block.ports) ≡ true = one_of (leb block.size (waiting_in_all block.ports)) (all_ended block.ports) enough unended in
    let all = told_in_all order.ports block.ports fits.tells in
    let least = leb-true block.size (waiting_in_all block.ports) whole in
    omega (arith, least, all)
  where
    one_of : (a b : Bool) → (a || b) ≡ true → b ≡ false → a ≡ true
    one_of true b e none = refl
    one_of false b e none = absurd (cc)
