use Rattle.std.proofs.Common.{◌<◌, length, arith}
use Rattle.flow_spread.specs.End.{owes_it, is_away_at, is_waiting_at, is_busy_at}
use Rattle.flow_spread.proofs.CountsOfEnds.{count_there, count_below, count_moved}
use Rattle.flow_spread.proofs.ends.Ends.go_to.Goals as goal

pub recounted-self-inside-requires-clause-there : goal.recounted-self-inside-requires-clause-there
recounted-self-inside-requires-clause-there c =
    let here : c.args.place < length c.self.inside.ends.items = rw (← c.self.view_is) at c.requires in
    rw (c.at-end.ensures, ← c.self.view_is, c.self.invariant.0) (count_there owes_it c.self.inside.ends.items c.args.place here)

pub recounted-self-inside-requires-clause-small : goal.recounted-self-inside-requires-clause-small
recounted-self-inside-requires-clause-small c =
    omega (arith, c.self.invariant.0, count_below owes_it c.self.inside.ends.items, c.self.inside.ends.small)

pub recounted-self-inside-requires-2-clause-there :
    goal.recounted-self-inside-requires-2-clause-there
recounted-self-inside-requires-2-clause-there c =
    let here : c.args.place < length c.self.inside.ends.items = rw (← c.self.view_is) at c.requires in
    rw (c.is_away.ensures, c.at-end.ensures, ← c.self.view_is, c.self.invariant.1) (count_there is_away_at c.self.inside.ends.items c.args.place here)

pub recounted-self-inside-requires-2-clause-small :
    goal.recounted-self-inside-requires-2-clause-small
recounted-self-inside-requires-2-clause-small c =
    omega (arith, c.self.invariant.1, count_below is_away_at c.self.inside.ends.items, c.self.inside.ends.small)

pub recounted-self-inside-requires-3-clause-there :
    goal.recounted-self-inside-requires-3-clause-there
recounted-self-inside-requires-3-clause-there c =
    let here : c.args.place < length c.self.inside.ends.items = rw (← c.self.view_is) at c.requires in
    rw (c.is_waiting.ensures, c.at-end.ensures, ← c.self.view_is, c.self.invariant.2) (count_there is_waiting_at c.self.inside.ends.items c.args.place here)

pub recounted-self-inside-requires-3-clause-small :
    goal.recounted-self-inside-requires-3-clause-small
recounted-self-inside-requires-3-clause-small c =
    omega (arith, c.self.invariant.2, count_below is_waiting_at c.self.inside.ends.items, c.self.inside.ends.small)

pub recounted-self-inside-requires-4-clause-there :
    goal.recounted-self-inside-requires-4-clause-there
recounted-self-inside-requires-4-clause-there c =
    let here : c.args.place < length c.self.inside.ends.items = rw (← c.self.view_is) at c.requires in
    rw (c.is_busy.ensures, c.at-end.ensures, ← c.self.view_is, c.self.invariant.3) (count_there is_busy_at c.self.inside.ends.items c.args.place here)

pub recounted-self-inside-requires-4-clause-small :
    goal.recounted-self-inside-requires-4-clause-small
recounted-self-inside-requires-4-clause-small c =
    omega (arith, c.self.invariant.3, count_below is_busy_at c.self.inside.ends.items, c.self.inside.ends.small)

pub invariant_of-self : goal.invariant_of-self
invariant_of-self c =
    let ends = c.self.inside.ends.items in
    let here : c.args.place < length ends = rw (← c.self.view_is) at c.requires in
    let owing = rw (c.at-end.ensures, ← c.self.view_is) at c.recounted-self-inside.ensures in
    let away = rw (c.is_away.ensures, c.is_away-2.ensures, c.at-end.ensures, ← c.self.view_is) at c.recounted-self-inside-2.ensures in
    let waiting = rw (c.is_waiting.ensures, c.is_waiting-2.ensures, c.at-end.ensures, ← c.self.view_is) at c.recounted-self-inside-3.ensures in
    let busy = rw (c.is_busy.ensures, c.is_busy-2.ensures, c.at-end.ensures, ← c.self.view_is) at c.recounted-self-inside-4.ensures in
    rw c.go_to.ensures (
      count_moved owes_it ends c.args.place _ c.self.inside.owing c.recounted-self-inside.result here c.self.invariant.0 owing,
      count_moved is_away_at ends c.args.place _ c.self.inside.away c.recounted-self-inside-2.result here c.self.invariant.1 away,
      count_moved is_waiting_at ends c.args.place _ c.self.inside.waiting c.recounted-self-inside-3.result here
          c.self.invariant.2 waiting,
      count_moved is_busy_at ends c.args.place _ c.self.inside.busy c.recounted-self-inside-4.result here c.self.invariant.3 busy,
    )
