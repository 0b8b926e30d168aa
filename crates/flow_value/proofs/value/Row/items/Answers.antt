use Rattle.std.proofs.Common.{◌∙◌}
use Rattle.flow_value.proofs.RowsDiffer.{boxed_values}
use Rattle.flow_value.proofs.value.Row.items.Goals as goal

pub returns : goal.returns
returns c =
    c.as_slice.ensures.value
    ∙ boxed_values c.deref.result.now c.self.inside.items.value c.args.self.now c.deref.ensures c.self.view_is
