-- What a refusal leaves in the writer, where it is known what the writer holds.
use Rattle.std.specs.Prelude.{◌≡◌, ◌≢◌, ℕ, List, Option}
use Rattle.flow_report.specs.Written.{StaysInFront}
use Rattle.flow_fault_text.specs.declared.fault.TextFault.TheVariants.{Write}
use Rattle.flow_run.specs.declared.outcome.RunRefusal.{RunRefusal}
use Rattle.flow_run.specs.declared.outcome.RunRefusal.TheVariants.{Text}

-- only a writer that failed may have taken a part of the report
pub record IsLeft (refusal : RunRefusal) (old new : Option (List ℕ)) : Type 0 where
  pub in_front : StaysInFront old new
  pub as_it_was : refusal ≢ Text Write → new ≡ old
