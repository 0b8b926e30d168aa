use Rattle.std.proofs.Common.{rules, tests, ◌∙◌}
use Rattle.std.proofs.lemmas.Iterator.{YieldsList-from_slice}
use Rattle.std.proofs.lemmas.Iterator.Search.{any_from_yields_List}
use Rattle.std.specs.Str.{bytes_eq}
use Rattle.flow_plan_text.specs.Rules.{rule_of}
use Rattle.flow_plan_text.proofs.KeyTestsTell.{any_rule}
use Rattle.flow_plan_text.proofs.network.keys.Part.knows.Goals as goal

pub returns : goal.returns
returns c =
    any_from_yields_List (λ k. bytes_eq (rule_of k).name c.args.name.now) _ _ _ c.any.ensures.ran (YieldsList-from_slice c.keys.result.now cc) (λ x b q k. search (rules, tests))
    ∙ any_rule (λ rule. bytes_eq rule.name c.args.name.now) c.keys.result.now c.args.self c.keys.ensures
