use Rattle.std.proofs.Common.{rules, tests, ◌∙◌}
use Rattle.std.proofs.lemmas.Iterator.{YieldsList-from_slice}
use Rattle.std.proofs.lemmas.Iterator.Search.{all_from_yields_List}
use Rattle.toml.specs.View.{view}
use Rattle.flow_plan_text.specs.Keys.{is_table}
use Rattle.flow_plan_text.proofs.KeyTestsTell.{all_items_view}
use Rattle.flow_plan_text.proofs.network.keys.are_tables.Goals as goal

pub returns : goal.returns
returns c =
    all_from_yields_List (λ v. is_table (view v)) _ _ _ c.all.ensures.ran (YieldsList-from_slice c.args.items.now cc) (λ x b q k. search (rules, tests))
    ∙ all_items_view is_table c.args.items.now
