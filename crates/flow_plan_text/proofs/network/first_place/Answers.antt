use Rattle.std.proofs.Common.{sym, ◌∙◌}
use Rattle.toml.specs.View.{table_view}
use Rattle.flow_plan_text.proofs.FirstInPass.{place_of_block}
use Rattle.flow_plan_text.proofs.network.first_place.Goals as goal

pub returns-in-Some : goal.returns-in-Some
returns-in-Some c = place_of_block c.args.check (table_view c.args.top.now) c.in-Some.block (sym c.fails.ensures ∙ c.if-fails.false) (sym c.in-Some.ensures)
