-- What a run that was reported was: the run of a network, from its first event to where it was quiet or was stopped. And why
-- there was none.
use Rattle.std.specs.Prelude.{◌≡◌, ◌↔◌, ◌⊎◌, ℕ, List, length, map, replicate, Option, IfSome}
use Rattle.flow_value.specs.Function.{meaning_of}
use Rattle.flow_value.specs.declared.steps.Steps.{Steps}
use Rattle.flow_lawful.specs.Lawful.{Lawful}
use Rattle.flow_lawful.specs.Quiet.{Quiet as IsQuiet}
use Rattle.flow_link.specs.Layout.{Layout}
use Rattle.flow_link.specs.Trace.{Run}
use Rattle.flow_link.specs.declared.trace.Ending.TheVariants.{Complete}
use Rattle.flow_core.specs.State.{NetState, fresh_net}
use Rattle.flow_core.specs.Statements.{IsStill}
use Rattle.flow_exec.specs.Works.{works_of}
use Rattle.flow_net.specs.Net.{run_with}
use Rattle.flow_net.specs.Settles.{Settles, GoesOn}
use Rattle.flow_net.specs.There.{NeedsId}
use Rattle.flow_report.specs.Complete.{is_complete}
use Rattle.flow_plan_text.specs.Plan.{IsPlannedAs, IsUnplannedFor}
use Rattle.flow_record_text.specs.Records.{PostAll, IsOfRecords, Explains, input_names}
use Rattle.flow_report.specs.Report.{report}
use Rattle.flow_fault_text.specs.declared.fault.TextFault.{TextFault}
use Rattle.flow_fault_text.specs.declared.fault.TextFault.TheVariants.{Write}
use Rattle.flow_fault_text.specs.declared.fault.TextRefusal.{TextRefusal}
use Rattle.flow_fault_text.specs.declared.fault.TextRefusal.TheVariants.{Fault}
use Rattle.flow_net.specs.declared.settled.Settled.{Settled}
use Rattle.flow_net.specs.declared.settled.Settled.TheVariants.{Quiet}
use Rattle.flow_run.specs.declared.outcome.Ran.{Ran}
use Rattle.flow_run.specs.declared.outcome.RunRefusal.{RunRefusal}
use Rattle.flow_run.specs.declared.outcome.RunRefusal.TheVariants.{Text, Ids, Memory}

-- the inputs of a run are given what the records post to them, where it is known what the reader has; after that each completes
pub record IsPosted {W : Type 0} (records : Option (List ℕ)) (run : Run W) : Type 0 where
  pub values : IfSome records (λ bytes. PostAll (input_names run.layout.blocks) bytes (map (λ input. input.posted) run.trace.inputs))
  pub endings : map (λ input. input.ending) run.trace.inputs ≡ replicate (length (input_names run.layout.blocks)) Complete

-- the network of the text, in which nothing has happened, given what the records post
pub record Begins (text : List ℕ) (records : Option (List ℕ)) (layout : Layout Steps) (start : NetState) : Type 0 where
  -- the network is the plan of the text
  pub planned : IsPlannedAs text layout
  pub fresh : start ≡ fresh_net layout (run_with meaning_of layout start).trace.inputs
  pub posted : IsPosted records (run_with meaning_of layout start)

-- a run of so many workers that has come so far: every law of links and blocks holds of it, and its inputs are given what the records
-- post. One worker does the events one after another, at most so many
pub record HasRun (records : Option (List ℕ)) (workers limit : ℕ) (layout : Layout Steps) (start now : NetState) : Type 0 where
  pub lawful : Lawful (run_with meaning_of layout now)
  pub posted : IsPosted records (run_with meaning_of layout now)
  pub one_by_one : workers ≡ 1 → GoesOn layout (works_of meaning_of layout) limit start now

-- and that ended so: it is told as quiet exactly where nothing may happen any more, and then nothing is left to do. One worker stops
-- where just as many events have happened as may
pub record HasEnded (workers limit : ℕ) (layout : Layout Steps) (start now : NetState) (settled : Settled) : Type 0 where
  pub still : (settled ≡ Quiet) ↔ IsStill layout (works_of meaning_of layout) now
  pub quiet : settled ≡ Quiet → IsQuiet (run_with meaning_of layout now)
  pub settles : workers ≡ 1 → Settles layout (works_of meaning_of layout) limit start now settled

-- of the network's text, of the records, of the number of workers and the limit of events, of what was written, of the network as
-- the run left it, and of what the run came to
pub record IsReportedOf (text : List ℕ) (records : Option (List ℕ)) (workers limit : ℕ) (Written : List ℕ → Type 0)
    (layout : Layout Steps) (now : NetState) (ran : Ran) : Type 0 where
  pub start : NetState
  -- nothing had happened, and it went on until nothing could happen any more, or the limit was reached
  pub begins : Begins text records layout start
  pub has_run : HasRun records workers limit layout start now
  pub has_ended : HasEnded workers limit layout start now ran.settled
  -- what was written is the report of the run
  pub written : Written (report (run_with meaning_of layout now) ran.settled)
  -- it is told as complete exactly where it is
  pub complete : ran.complete ≡ is_complete (run_with meaning_of layout now)

-- the same of some layout and state: the network itself is gone
pub record IsReported (text : List ℕ) (records : Option (List ℕ)) (workers limit : ℕ) (Written : List ℕ → Type 0)
    (ran : Ran) : Type 0 where
  pub layout : Layout Steps
  pub now : NetState
  pub reported : IsReportedOf text records workers limit Written layout now ran

-- the network can be read, and the records are refused so: for a fault that records may have, and for the one that these have
-- where it is known what the reader has
pub record HasUnreadRecords (text : List ℕ) (records : Option (List ℕ)) (refusal : TextRefusal) : Type 0 where
  pub layout : Layout Steps
  pub planned : IsPlannedAs text layout
  pub of_records : IsOfRecords refusal
  pub explained : IfSome records (λ bytes. Explains (input_names layout.blocks) bytes refusal)

-- why there is no network to which the records are posted; of when memory is out nothing is said
abbrev pub IsUnbegun : List ℕ → Option (List ℕ) → RunRefusal → Type 0
IsUnbegun text records (Text fault) = IsUnplannedFor text (Fault fault) ⊎ HasUnreadRecords text records (Fault fault)
IsUnbegun text records Ids = ⊥
IsUnbegun text records Memory = Unit {0}

-- the network went on to where a message is offered next whose id would be too great
pub record UsesUpIds (text : List ℕ) (records : Option (List ℕ)) (workers limit : ℕ) : Type 0 where
  pub layout : Layout Steps
  pub start : NetState
  pub now : NetState
  pub begins : Begins text records layout start
  pub has_run : HasRun records workers limit layout start now
  pub used_up : NeedsId layout (works_of meaning_of layout) now

-- the network settled, and then the writer failed
pub record HasUnwrittenReport (text : List ℕ) (records : Option (List ℕ)) (workers limit : ℕ) (fault : TextFault) : Type 0 where
  pub is_write : fault ≡ Write
  pub layout : Layout Steps
  pub start : NetState
  pub now : NetState
  pub settled : Settled
  pub begins : Begins text records layout start
  pub has_run : HasRun records workers limit layout start now
  pub has_ended : HasEnded workers limit layout start now settled

-- why there was no run, or no report of it; of when memory is out nothing is said
abbrev pub IsUnreported : List ℕ → Option (List ℕ) → ℕ → ℕ → RunRefusal → Type 0
IsUnreported text records workers limit (Text fault) =
    IsUnbegun text records (Text fault) ⊎ HasUnwrittenReport text records workers limit fault
IsUnreported text records workers limit Ids = UsesUpIds text records workers limit
IsUnreported text records workers limit Memory = Unit {0}
