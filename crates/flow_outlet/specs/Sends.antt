-- A message that goes over a link in one call, where its target takes it at once: the moves and looks of its source.
use Rattle.std.specs.Prelude.{ℕ}
use Rattle.flow_link.specs.declared.phase.Phase.TheVariants.{Idle, Wanted, Opened}
use Rattle.flow_link.specs.declared.stage.SourceStage.TheVariants.{Free}
use Rattle.flow_outlet.specs.End.{counted}
use Rattle.flow_outlet.specs.Outlet.{OutletState, offers, looks, gives}
use Rattle.flow_outlet.specs.declared.ends.OutEnd.{OutEnd}

abbrev pub sends : ℕ → OutletState → OutletState
sends k o = looks k Idle (looks k (Opened o.next) (gives k (looks k (Wanted o.next) (offers k o))))

-- the end over which it went: free, as before
abbrev pub sent_end : ℕ → OutEnd → OutEnd
sent_end next end = record end { given = counted end.rule.max end.given; last = next; stage = Free }
