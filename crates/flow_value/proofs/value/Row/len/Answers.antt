use Rattle.std.proofs.Common.{length, ap, ◌∙◌}
use Rattle.flow_value.proofs.RowsDiffer.{boxed_values}
use Rattle.flow_value.proofs.value.Row.len.Goals as goal

pub returns-clause-count : goal.returns-clause-count
returns-clause-count c =
    let same = boxed_values c.deref.result.now c.self.inside.items.value c.args.self.now c.deref.ensures c.self.view_is in
    c.len.ensures ∙ c.deref.result.now.ok.0 ∙ ap length same
