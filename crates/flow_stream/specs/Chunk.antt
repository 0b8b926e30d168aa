-- What the run of a chunk is: a lawful run of its records alone, which has gone through.
use Rattle.std.specs.Prelude.{◌≡◌, ℕ, List, length, map, replicate, true}
use Rattle.flow_value.specs.declared.steps.Steps.{Steps}
use Rattle.flow_lawful.specs.Lawful.{Lawful}
use Rattle.flow_link.specs.Trace.{Run}
use Rattle.flow_link.specs.declared.trace.Ending.TheVariants.{Complete}
use Rattle.flow_record_text.specs.Records.{PostAll, input_names}
use Rattle.flow_report.specs.Complete.{is_complete}

-- the inputs of a run are given what the records of a text post; after that each completes
pub record IsPosted (text : List ℕ) (run : Run Steps) : Type 0 where
  pub values : PostAll (input_names run.layout.blocks) text (map (λ input. input.posted) run.trace.inputs)
  pub endings : map (λ input. input.ending) run.trace.inputs ≡ replicate (length (input_names run.layout.blocks)) Complete

-- a run over the records of a text: every law of links and blocks holds of it, every block is done, and nothing waits
pub record IsRunOver (text : List ℕ) (run : Run Steps) : Type 0 where
  pub posted : IsPosted text run
  pub lawful : Lawful run
  pub complete : is_complete run ≡ true
