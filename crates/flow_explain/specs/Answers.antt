-- When an answer and a verdict are those of `read_plan` and `read_records`.
use Rattle.std.specs.Prelude.{ℕ, List}
use Rattle.flow_link.specs.Layout.{Layout}
use Rattle.flow_plan_text.specs.Plan.{IsPlannedAs, IsUnplannedFor}
use Rattle.flow_fault_text.specs.declared.fault.TextRefusal.TheVariants.{Fault}
use Rattle.flow_explain.specs.declared.explain.Answer.{Answer}
use Rattle.flow_explain.specs.declared.explain.Answer.TheVariants as answer
use Rattle.flow_explain.specs.declared.check.Verdict.{Verdict}
use Rattle.flow_explain.specs.declared.check.Verdict.TheVariants as verdict
use Rattle.flow_value.specs.declared.steps.Steps.{Steps}
use Rattle.flow_value.specs.declared.value.Value.{Value}
use Rattle.flow_record_text.specs.Records.{PostAll, Explains}

-- some network is what the text is read as
abbrev pub IsNetwork : List ℕ → Type 0
IsNetwork text = (layout : Layout Steps) × IsPlannedAs text layout

-- it tells of no flaw where the text is a network, and else first of the fault for which it is none
abbrev pub IsAnswerTo : List ℕ → Answer → Type 0
IsAnswerTo text (answer.Accepted warnings) = IsNetwork text
IsAnswerTo text (answer.Refused flaw others) = IsUnplannedFor text (Fault flaw.fault)

-- it accepts what is a network, and refuses the text for the fault for which it is none
abbrev pub IsVerdictOn : List ℕ → Verdict → Type 0
IsVerdictOn text verdict.Accepted = IsNetwork text
IsVerdictOn text (verdict.Refused fault) = IsUnplannedFor text (Fault fault)

-- the records of the text post some values to the inputs with these names
abbrev pub AreRecordsFor : List (List ℕ) → List ℕ → Type 0
AreRecordsFor names text = (posted : List (List Value)) × PostAll names text posted

-- it tells of no flaw where the records can be posted, and else first of the fault for which they can't
abbrev pub IsRecordsAnswer : List (List ℕ) → List ℕ → Answer → Type 0
IsRecordsAnswer names text (answer.Accepted warnings) = AreRecordsFor names text
IsRecordsAnswer names text (answer.Refused flaw others) = Explains names text (Fault flaw.fault)

-- it accepts records that can be posted, and refuses others for the fault for which they can't
abbrev pub IsRecordsVerdict : List (List ℕ) → List ℕ → Verdict → Type 0
IsRecordsVerdict names text verdict.Accepted = AreRecordsFor names text
IsRecordsVerdict names text (verdict.Refused fault) = Explains names text (Fault fault)
