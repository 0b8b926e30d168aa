use Rattle.toml.proofs.Views.{table_get}
use Rattle.toml.specs.View.{table_view}
use Rattle.flow_plan_text.specs.Rules.{rule_of}
use Rattle.flow_plan_text.proofs.KeyTestsTell.{missed_at}
use Rattle.flow_plan_text.proofs.network.keys.Key.is_missed.Goals as goal

pub returns-then-self : goal.returns-then-self
returns-then-self c =
    let found = table_get c.get.result c.args.self.now.name.now c.args.table.now.entries c.get.ensures.value in
    missed_at (table_view c.args.table.now) (rule_of c.args.self.now) c.get.result c.is_none.result c.if-self.true c.is_none.ensures found
