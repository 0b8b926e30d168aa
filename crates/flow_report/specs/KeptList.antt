-- Of which lists of a run a text is kept.
use Rattle.std.specs.Prelude.{◌≡◌, true, All, IfSome}
use Rattle.flow_link.specs.Trace.{Run, took_at, given_over, marks_of}
use Rattle.flow_report.specs.Printed.{list_text}
use Rattle.flow_report.specs.SameLists.{AllTaken}
use Rattle.flow_report.specs.declared.kept_list.KeptList.{KeptList}

-- each port and link that is named has just the values that were printed
pub record Fits {W : Type 0} (run : Run W) (kept : KeptList) : Type 0 where
  pub taken : kept.all_taken ≡ true → AllTaken run
  pub port : IfSome kept.port (λ at. kept.text.items ≡ list_text (took_at at.1 (marks_of run at.0)))
  pub links : All (λ l. kept.text.items ≡ list_text (given_over run l)) kept.links.items
