use Rattle.std.proofs.Common.{◌≡◌, ℕ, ◌<◌, false}
use Rattle.flow_link.specs.Plan.{link_in}
use Rattle.flow_link.specs.Planned.{layout_of}
use Rattle.flow_moves.specs.Sights.{is_exit_of}
use Rattle.flow_net.proofs.net.Net.link_out_of.Given as goal

-- no link before this one is an exit of the block
abbrev pub invariant-loop-id : goal.invariant-loop-id
invariant-loop-id g l =
    (k : ℕ) → k < l.id → is_exit_of l.block (link_in (layout_of l.self.engine.plan).links k) ≡ false
