use Rattle.std.proofs.Common.{rules, tests, ◌∙◌}
use Rattle.std.proofs.lemmas.Iterator.{YieldsList-from_slice}
use Rattle.std.proofs.lemmas.Iterator.Search.{any_from_yields_List}
use Rattle.toml.specs.View.{table_view}
use Rattle.flow_plan_text.specs.Keys.{is_missed}
use Rattle.flow_plan_text.specs.Rules.{rule_of}
use Rattle.flow_plan_text.proofs.KeyTestsTell.{any_rule}
use Rattle.flow_plan_text.proofs.network.keys.Part.has_missed.Goals as goal

pub returns : goal.returns
returns c =
    any_from_yields_List (λ k. is_missed (table_view c.args.table.now) (rule_of k)) _ _ _ c.any.ensures.ran (YieldsList-from_slice c.keys.result.now cc) (λ x b q k. search (rules, tests))
    ∙ any_rule (is_missed (table_view c.args.table.now)) c.keys.result.now c.args.self c.keys.ensures
