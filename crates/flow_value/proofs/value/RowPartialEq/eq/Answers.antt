use Rattle.std.specs.Bool.{one_answer}
use Rattle.flow_value.specs.Same.{same_items, same_items-Decides}
use Rattle.flow_value.proofs.value.RowPartialEq.eq.Goals as goal

pub returns : goal.returns
returns c =
    one_answer c.is_same.result (same_items c.args.self.now c.args.other.now) c.is_same.ensures
    (same_items-Decides c.args.self.now c.args.other.now)
