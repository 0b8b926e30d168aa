use Rattle.std.proofs.Common.{ap, ◌∙◌}
use Rattle.flow_value.proofs.RowsDiffer.{boxed_values}
use Rattle.flow_value.proofs.value.Row.into_items.Goals as goal

pub returns-in-Ok : goal.returns-in-Ok
returns-in-Ok c = boxed_values c.in-Ok.items c.self.inside.items.value c.args.self c.in-Ok.ensures.ok c.self.view_is

pub returns-in-Ok-copies_of : goal.returns-in-Ok-copies_of
returns-in-Ok-copies_of c =
    c.in-Ok-copies_of.ensures ∙ c.as_slice.ensures.value
    ∙ boxed_values c.deref.result.now c.self.inside.items.value c.args.self
    (c.deref.ensures ∙ ap (λ a. a.value) c.in-Err.ensures.err) c.self.view_is
