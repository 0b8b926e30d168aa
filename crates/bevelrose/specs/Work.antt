-- What the meaning of a work of one's own is about: values, and why a work gives none.
pub use Rattle.flow_value.specs.declared.value.Value.{Value}
pub use Rattle.flow_value.specs.declared.value.Value.TheVariants.{Int, Text, Row}
pub use Rattle.flow_value.specs.declared.work.WorkFault.{WorkFault}
pub use Rattle.flow_value.specs.declared.work.WorkFault.TheVariants.{NotInt, NotText, NotRow, NoField, Range, Rejected, Memory}
