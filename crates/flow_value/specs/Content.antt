-- The bytes of a text, wherever they stand.
use Rattle.std.specs.Prelude.{List, ℕ, string_bytes}
use Rattle.std.specs.Arc.{arc_value}
use Rattle.flow_value.specs.Head.{bytes_in}
use Rattle.flow_value.specs.declared.value.Bytes.{Bytes}
use Rattle.flow_value.specs.declared.value.Bytes.TheVariants.{Short, Long}

abbrev pub bytes_of : Bytes → List ℕ
bytes_of (Short short) = bytes_in short.head short.cells
bytes_of (Long content) = string_bytes (arc_value content).bytes
