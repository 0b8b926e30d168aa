use Rattle.std.proofs.Common.{◌≡◌, ◌<◌, ◌≤◌, ◌+◌, cond, length, sym, subst, arith}
use Rattle.flow_link.specs.declared.stage.SourceStage.{SourceStage}
use Rattle.flow_link.specs.declared.stage.SourceStage.TheVariants.{Out}
use Rattle.flow_outlet.specs.End.{is_away, is_waiting}
use Rattle.flow_spread.specs.End.{end_in, is_busy, count_of, owes_it, is_away_at, is_waiting_at, is_busy_at}
use Rattle.flow_spread.proofs.CountsOfEnds.{count_there, count_below, count_moved}
use Rattle.flow_spread.proofs.ends.Ends.send.Goals as goal

pub recounted-self-inside-requires-clause-there : goal.recounted-self-inside-requires-clause-there
recounted-self-inside-requires-clause-there c =
    let here : c.args.place < length c.self.inside.ends.items = rw (← c.self.view_is) at c.requires.there in
    rw (c.at.ensures, ← c.self.view_is, c.self.invariant.0) (count_there owes_it c.self.inside.ends.items c.args.place here)

pub recounted-self-inside-requires-clause-small : goal.recounted-self-inside-requires-clause-small
recounted-self-inside-requires-clause-small c =
    omega (arith, c.self.invariant.0, count_below owes_it c.self.inside.ends.items, c.self.inside.ends.small)

pub recounted-self-inside-requires-2-clause-there :
    goal.recounted-self-inside-requires-2-clause-there
recounted-self-inside-requires-2-clause-there c =
    let ends = c.self.inside.ends.items in
    let here : c.args.place < length ends = rw (← c.self.view_is) at c.requires.there in
    let out : (end_in ends c.args.place).link.stage ≡ Out c.args.id = rw (← c.self.view_is) at c.requires.offered in
    rw c.self.invariant.1
    (subst (λ (stage : SourceStage). cond (is_away stage) 1 0 ≤ count_of is_away_at ends) out
    (count_there is_away_at ends c.args.place here))

pub recounted-self-inside-requires-2-clause-small :
    goal.recounted-self-inside-requires-2-clause-small
recounted-self-inside-requires-2-clause-small c =
    omega (arith, c.self.invariant.1, count_below is_away_at c.self.inside.ends.items, c.self.inside.ends.small)

pub recounted-self-inside-requires-3-clause-there :
    goal.recounted-self-inside-requires-3-clause-there
recounted-self-inside-requires-3-clause-there c =
    let ends = c.self.inside.ends.items in
    let here : c.args.place < length ends = rw (← c.self.view_is) at c.requires.there in
    let out : (end_in ends c.args.place).link.stage ≡ Out c.args.id = rw (← c.self.view_is) at c.requires.offered in
    rw c.self.invariant.3
    (subst (λ (stage : SourceStage). cond (is_busy stage) 1 0 ≤ count_of is_busy_at ends) out
    (count_there is_busy_at ends c.args.place here))

pub recounted-self-inside-requires-3-clause-small :
    goal.recounted-self-inside-requires-3-clause-small
recounted-self-inside-requires-3-clause-small c =
    omega (arith, c.self.invariant.3, count_below is_busy_at c.self.inside.ends.items, c.self.inside.ends.small)

pub invariant_of-self : goal.invariant_of-self
invariant_of-self c =
    let ends = c.self.inside.ends.items in
    let end = end_in ends c.args.place in
    let here : c.args.place < length ends = rw (← c.self.view_is) at c.requires.there in
    let out : end.link.stage ≡ Out c.args.id = rw (← c.self.view_is) at c.requires.offered in
    let owing = rw (c.at.ensures, ← c.self.view_is) at c.recounted-self-inside.ensures in
    let away : c.recounted-self-inside-2.result + cond (is_away end.link.stage) 1 0 ≡ c.self.inside.away + 0 =
    subst (λ (stage : SourceStage). c.recounted-self-inside-2.result + cond (is_away stage) 1 0 ≡ c.self.inside.away + 0) (sym out)
    c.recounted-self-inside-2.ensures in
    let busy : c.recounted-self-inside-3.result + cond (is_busy end.link.stage) 1 0 ≡ c.self.inside.busy + 0 =
    subst (λ (stage : SourceStage). c.recounted-self-inside-3.result + cond (is_busy stage) 1 0 ≡ c.self.inside.busy + 0) (sym out)
    c.recounted-self-inside-3.ensures in
    let waiting : c.self.inside.waiting + cond (is_waiting end.link.stage) 1 0 ≡ c.self.inside.waiting + 0 =
    subst (λ (stage : SourceStage). c.self.inside.waiting + cond (is_waiting stage) 1 0 ≡ c.self.inside.waiting + 0) (sym out)
    (omega arith) in
    rw c.send-share.ensures.sent (
      count_moved owes_it ends c.args.place _ c.self.inside.owing c.recounted-self-inside.result here c.self.invariant.0 owing,
      count_moved is_away_at ends c.args.place _ c.self.inside.away c.recounted-self-inside-2.result here c.self.invariant.1 away,
      count_moved is_waiting_at ends c.args.place _ c.self.inside.waiting c.self.inside.waiting here c.self.invariant.2 waiting,
      count_moved is_busy_at ends c.args.place _ c.self.inside.busy c.recounted-self-inside-3.result here c.self.invariant.3 busy,
    )
