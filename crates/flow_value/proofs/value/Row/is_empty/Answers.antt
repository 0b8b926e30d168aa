use Rattle.std.proofs.Common.{ap, ◌∙◌, length}
use Rattle.flow_value.specs.View.{values_of}
use Rattle.flow_value.proofs.RowsDiffer.{boxed_values}
use Rattle.flow_value.proofs.WordsGrow.{empty_test}
use Rattle.flow_value.proofs.value.Row.is_empty.Goals as goal

pub returns : goal.returns
returns c =
    let same = boxed_values c.deref.result.now c.self.inside.items.value c.args.self.now c.deref.ensures c.self.view_is in
    empty_test (values_of c.args.self.now) c.deref.result.now.len c.is_empty.result
    (c.deref.result.now.ok.0 ∙ ap length same) c.is_empty.ensures
