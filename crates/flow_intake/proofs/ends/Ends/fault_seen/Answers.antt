use Rattle.std.proofs.Common.{◌+◌, drop, ◌∙◌, sym, refl}
use Rattle.std.proofs.lemmas.List.{drop_all}
use Rattle.flow_intake.specs.Ended.{fault_over, fault_at_ends}
use Rattle.flow_intake.proofs.EndingsCounted.{none_where_not_counted, fault_from, lower_joins, lower_than_none}
use Rattle.flow_intake.proofs.ends.Ends.fault_seen.Goals as goal

pub returns-then-self-eq0 : goal.returns-then-self-eq0
returns-then-self-eq0 c =
    let none = sym c.self.invariant.3 ∙ c.if-self-eq0.true in
    rw (← c.self.view_is) (none_where_not_counted c.self.inside.ends.items none)

pub loop-end-init : goal.loop-end-init
loop-end-init c = rw (c.deref-end-items.ensures.value, ← c.self.view_is) refl

pub loop-end-preserved : goal.loop-end-preserved
loop-end-preserved c =
    let ends = c.deref-end-items.result.now in
    let from = fault_from ends c.loop-end.end-index c.end-item.result c.loop-end-test.true c.end-item.is in
    rw (c.of_lower_link-lowest.ensures, c.fault_over.ensures)
    (lower_joins c.loop-end.lowest (fault_over c.end-item.result) (fault_at_ends (drop (c.loop-end.end-index + 1) ends))
    ∙ rw (← from) c.loop-end.invariant)

pub returns : goal.returns
returns c =
    let ends = c.deref-end-items.result.now in
    sym (lower_than_none c.loop-end.lowest) ∙ (rw (drop_all c.loop-end.end-index ends c.loop-end-test.false) at c.loop-end.invariant)
