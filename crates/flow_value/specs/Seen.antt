-- A value that is seen where it stands.
use Rattle.flow_value.specs.View.{items_from}
use Rattle.flow_value.specs.declared.value.Value.{Value}
use Rattle.flow_value.specs.declared.value.Value.TheVariants as value
use Rattle.flow_value.specs.declared.kept.ValueRef.{ValueRef}
use Rattle.flow_value.specs.declared.kept.ValueRef.TheVariants.{Int, Text, Row}

abbrev pub value_of_ref : ValueRef → Value
value_of_ref (Int n) = value.Int n
value_of_ref (Text text) = value.Text text.now
value_of_ref (Row values) = value.Row (items_from values.now)
