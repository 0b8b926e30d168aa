use Rattle.toml.proofs.Views.{table_get}
use Rattle.toml.specs.View.{view, table_view}
use Rattle.flow_plan_text.specs.Rules.{rule_of}
use Rattle.flow_plan_text.proofs.KeyTestsTell.{misfit_at, misfit_nowhere}
use Rattle.flow_plan_text.proofs.network.keys.Key.is_misfit.Goals as goal

pub returns-in-Some : goal.returns-in-Some
returns-in-Some c =
    let found = table_get c.get.result c.args.self.now.name.now c.args.table.now.entries c.get.ensures.value in
    misfit_at (table_view c.args.table.now) (rule_of c.args.self.now) (view c.in-Some.value.now) c.fits.result (rw (← rw c.in-Some.is at found)) c.fits.ensures

pub returns-in-None : goal.returns-in-None
returns-in-None c =
    let found = table_get c.get.result c.args.self.now.name.now c.args.table.now.entries c.get.ensures.value in
    misfit_nowhere (table_view c.args.table.now) (rule_of c.args.self.now) (rw (← rw c.in-None.is at found))
