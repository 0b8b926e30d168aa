-- Nobody asks at an exit of a network: no receive waits there.
use Rattle.std.specs.Prelude.{◌≡◌, ℕ, Bool, not, List}
use Rattle.flow_link.specs.Lists.{every}
use Rattle.flow_link.specs.declared.phase.Move.TheVariants.{Consume, Want}
use Rattle.flow_link.specs.declared.plan.LinkTarget.TheVariants.{Exit}
use Rattle.flow_link.specs.Layout.{Layout}
use Rattle.flow_link.specs.Plan.{link_in}
use Rattle.flow_exit.specs.Exit.{CallerState}
use Rattle.flow_core.specs.Events.{Enabled, NetEvent}
use Rattle.flow_core.specs.State.{NetState, callers_in}

abbrev pub none_wait : List CallerState → Bool
none_wait callers = every (λ caller. not caller.asked) callers

abbrev pub none_asked : NetState → Bool
none_asked net = none_wait (callers_in net)

-- over no link that leads out may a message be wanted, and none that was put off may be taken
pub record ExitsWantNothing {W : Type 0} (layout : Layout W) (net : NetState) : Type 0 where
  pub none_wanted : (l : ℕ) → (link_in layout.links l).target ≡ Exit → Enabled layout net (NetEvent.at_link l Want) → ⊥
  pub none_consumed : (l : ℕ) → (link_in layout.links l).target ≡ Exit → Enabled layout net (NetEvent.at_link l Consume) → ⊥
