use Rattle.std.proofs.Common.{◌≡◌, map, filter}
use Rattle.flow_link.specs.Lists.{below}
use Rattle.flow_link.specs.Planned.{layout_of}
use Rattle.flow_block.specs.Planned.{is_out_of, rule_of}
use Rattle.flow_block.proofs.planned.rules_from.Given as goal

abbrev pub invariant-loop-id : goal.invariant-loop-id
invariant-loop-id g l =
    l.rules.items ≡ map (rule_of (layout_of l.plan)) (filter (is_out_of (layout_of l.plan) l.block) (below l.id))
