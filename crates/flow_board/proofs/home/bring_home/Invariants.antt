use Rattle.std.proofs.Common.{◌≡◌, ℕ, ◌<◌, false}
use Rattle.flow_core.specs.Inputs.{InputsStay}
use Rattle.flow_core.specs.State.{line_at}
use Rattle.flow_net.specs.Net.{layout_in, parts_of}
use Rattle.flow_wire.specs.Ends.{is_crossing}
use Rattle.flow_board.specs.Home.{HasComeHome}
use Rattle.flow_board.proofs.home.bring_home.Given as goal

-- nothing crosses the links before this one
abbrev pub invariant-loop-id : goal.invariant-loop-id
invariant-loop-id g l =
    (layout_in l.net ≡ layout_in l.initial.net)
    × (((k : ℕ) → k < l.id → is_crossing (line_at (parts_of l.net) k).phase ≡ false)
    × (InputsStay (parts_of l.initial.net) (parts_of l.net)
    × HasComeHome g.W.Runs.meaning (layout_in l.initial.net) (parts_of l.initial.net) (parts_of l.net)))
