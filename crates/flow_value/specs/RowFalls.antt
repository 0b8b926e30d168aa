-- Each value in a row has fewer values inside it than the row.
use Rattle.std.specs.Prelude.{◌≤◌, List, [], ◌∷◌}
use Rattle.std.proofs.Common.{arith}
use denote.Param.Weighed.{most}
use Rattle.flow_value.specs.Items.{value_count}
use Rattle.flow_value.specs.View.{items_from}
use Rattle.flow_value.specs.declared.value.Value.{Value}
use Rattle.flow_value.specs.declared.value.Value.TheVariants.{Int, Text, Row}
use Rattle.flow_value.specs.declared.value.Row.TheDeep.{deep-Value}

pub most_le-value_count : (vs : List Value) → most deep-Value vs ≤ value_count (items_from vs)
most_le-value_count [] = omega arith
most_le-value_count (Int n ∷ vs) = omega (arith, most_le-value_count vs)
most_le-value_count (Text t ∷ vs) = omega (arith, most_le-value_count vs)
most_le-value_count (Row r ∷ vs) = omega (arith, most_le-value_count vs)
