-- The rule that the code has for a key, as contracts see it.
use Rattle.flow_plan_text.specs.declared.network.keys.Key.{Key}
use Rattle.flow_plan_text.specs.Keys.{Rule}

abbrev pub rule_of : Key → Rule
rule_of key = record { name = key.name.now; form = key.form; required = key.is_required }
