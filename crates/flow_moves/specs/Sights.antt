-- What is in sight at the end of a link out of a network, and of which block such a link is the exit.
use Rattle.std.specs.Prelude.{ℕ, ◌==◌, Bool, true, false, ◌&&◌, ◌||◌, Option, Some, None, is_some}
use Rattle.flow_link.specs.declared.plan.Link.{Link}
use Rattle.flow_link.specs.declared.plan.LinkSource.{LinkSource}
use Rattle.flow_link.specs.declared.plan.LinkSource.TheVariants.{Block, Input}
use Rattle.flow_link.specs.declared.stage.TargetStage.{TargetStage}
use Rattle.flow_link.specs.declared.stage.TargetStage.TheVariants.{Offered, Posted, Postponed, Accepted, Consuming, Arrived, Hand}
use Rattle.flow_link.specs.declared.trace.Outcome.{Outcome}
use Rattle.flow_link.specs.Plan.{begins_at}
use Rattle.flow_poll.specs.Receives.{ReceiveView, Sight}
use Rattle.flow_block.specs.Planned.{is_exit}
use Rattle.flow_exit.specs.Exit.{ExitState, over_by}

-- the link leads from this block out of the network
abbrev pub is_exit_of : ℕ → Link → Bool
is_exit_of b link = begins_at b link.source && is_exit link.target

-- the link leads from the input of this block
abbrev pub comes_from : ℕ → LinkSource → Bool
comes_from b (Input n) = n == b
comes_from b (Block n) = false

abbrev pub is_entry_of : ℕ → Link → Bool
is_entry_of b link = comes_from b link.source

-- a message is offered there, or comes
abbrev pub comes_near : TargetStage → Bool
comes_near (Offered _) = true
comes_near (Posted _) = true
comes_near (Postponed _) = true
comes_near (Accepted _) = true
comes_near (Consuming _) = true
comes_near (Arrived _) = true
comes_near (Hand _) = true
comes_near _ = false

-- or is kept
abbrev pub is_near : ExitState → Bool
is_near exit = is_some exit.kept || comes_near exit.stage

abbrev pub sight_at : Option Outcome → Bool → Sight
sight_at (Some how) near = Sight.over how
sight_at None true = Sight.message
sight_at None false = Sight.nothing

abbrev pub sight_of : ExitState → Sight
sight_of exit = sight_at (over_by exit) (is_near exit)

abbrev pub exit_seen : ExitState → ReceiveView
exit_seen exit = record { received = exit.received; sight = sight_of exit }
