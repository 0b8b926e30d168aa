use Rattle.std.specs.Bool.{one_answer}
use Rattle.flow_value.specs.Same.{same_value, same_value-Decides}
use Rattle.flow_value.proofs.value.ValuePartialEq.eq.Goals as goal

pub returns : goal.returns
returns c =
    one_answer c.is_same.result (same_value c.args.self.now c.args.other.now) c.is_same.ensures
    (same_value-Decides c.args.self.now c.args.other.now)
