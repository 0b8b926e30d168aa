use Rattle.std.proofs.Common.{◌≡◌, map, filter}
use Rattle.flow_link.specs.Lists.{below}
use Rattle.flow_link.specs.Planned.{layout_of}
use Rattle.flow_block.specs.Planned.{leads_out}
use Rattle.flow_exit.specs.Exit.{fresh_exit}
use Rattle.flow_moves.proofs.fresh.exits_of.Given as goal

abbrev pub invariant-loop-id : goal.invariant-loop-id
invariant-loop-id g l = l.exits.items ≡ map (λ _. fresh_exit) (filter (leads_out (layout_of l.plan)) (below l.id))
