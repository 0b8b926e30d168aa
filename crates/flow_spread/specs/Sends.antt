-- A copy that goes over a link in one call, where it is offered and its target takes it at once: the moves and looks of its source.
use Rattle.std.specs.Prelude.{ℕ, false, None}
use Rattle.flow_link.specs.declared.phase.Phase.TheVariants.{Idle, Wanted, Opened}
use Rattle.flow_link.specs.declared.stage.SourceStage.TheVariants.{Free}
use Rattle.flow_outlet.specs.End.{counted}
use Rattle.flow_outlet.specs.declared.ends.OutEnd.{OutEnd}
use Rattle.flow_spread.specs.declared.end.CopyEnd.{CopyEnd}
use Rattle.flow_spread.specs.Spread.{SpreadState, looks, gives}

abbrev pub sends : ℕ → SpreadState → SpreadState
sends k s = looks k Idle (looks k (Opened s.id) (gives k (looks k (Wanted s.id) s)))

-- the end over which it went: free, and it owes nothing
abbrev pub sent_link : ℕ → OutEnd → OutEnd
sent_link id link = record link { given = counted link.rule.max link.given; last = id; stage = Free }

abbrev pub sent_end : ℕ → CopyEnd → CopyEnd
sent_end id end = record { link = sent_link id end.link; owes = false; share = None }
