-- The value that is kept in 16 bytes.
use Rattle.std.specs.Prelude.{string_bytes}
use Rattle.std.specs.Arc.{arc_value}
use Rattle.flow_value.specs.Head.{bytes_in}
use Rattle.flow_value.specs.declared.value.Value.{Value}
use Rattle.flow_value.specs.declared.value.Value.TheVariants as value
use Rattle.flow_value.specs.declared.kept.Held.{Held}
use Rattle.flow_value.specs.declared.kept.Held.TheVariants.{Int, Short, Long, Row}

abbrev pub value_of : Held → Value
value_of (Int n) = value.Int n
value_of (Short short) = value.Text (bytes_in short.head short.cells)
value_of (Long text) = value.Text (string_bytes (arc_value text).bytes)
value_of (Row row) = value.Row row
