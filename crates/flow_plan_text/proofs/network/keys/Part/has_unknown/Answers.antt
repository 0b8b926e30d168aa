use Rattle.std.proofs.Common.{rules, tests, ◌∙◌, not, string_bytes}
use Rattle.std.proofs.lemmas.Iterator.Consumers.{YieldsList-from_rest}
use Rattle.std.proofs.lemmas.Iterator.Search.{any_from_yields_List}
use Rattle.std.specs.Map.{keys_of}
use Rattle.flow_plan_text.specs.Keys.{knows}
use Rattle.flow_plan_text.proofs.KeyTestsTell.{has_unknown_view}
use Rattle.flow_plan_text.proofs.network.keys.Part.has_unknown.Goals as goal

pub returns : goal.returns
returns c =
    any_from_yields_List (λ k. not (knows c.args.self (string_bytes k))) _ _ _ c.any.ensures.ran (YieldsList-from_rest (keys_of c.args.table.now.entries) cc) (λ x b q k. search (rules, tests))
    ∙ has_unknown_view c.args.self c.args.table.now.entries
