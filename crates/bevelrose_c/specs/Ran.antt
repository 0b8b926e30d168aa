-- What a run of a plan over records came to: one owner did events, one after another, from where nothing had happened to where nothing may
-- happen any more, or to the limit. And why there is no report.
use Rattle.std.specs.Prelude.{◌≡◌, ℕ, Bool, true, false, List, length, map, replicate, Option, Some}
use Rattle.flow_value.specs.Function.{meaning_of}
use Rattle.flow_value.specs.declared.steps.Steps.{Steps}
use Rattle.flow_lawful.specs.Lawful.{Lawful}
use Rattle.flow_lawful.specs.Quiet.{Quiet as IsQuiet}
use Rattle.flow_link.specs.Layout.{Layout}
use Rattle.flow_link.specs.Trace.{Run}
use Rattle.flow_link.specs.declared.trace.Ending.TheVariants.{Complete}
use Rattle.flow_core.specs.State.{NetState, fresh_net}
use Rattle.flow_exec.specs.Works.{works_of}
use Rattle.flow_net.specs.Net.{run_with}
use Rattle.flow_net.specs.Settles.{Settles, GoesOn}
use Rattle.flow_net.specs.There.{NeedsId}
use Rattle.flow_net.specs.declared.settled.Settled.{Settled}
use Rattle.flow_net.specs.declared.settled.Settled.TheVariants.{Quiet, Stopped}
use Rattle.flow_record_text.specs.Records.{PostAll, IsOfRecords, Explains, input_names}
use Rattle.flow_report.specs.Complete.{is_complete}
use Rattle.flow_report.specs.Report.{report}
use Rattle.flow_fault_text.specs.declared.fault.TextRefusal.TheVariants.{Fault}
use Rattle.bevelrose_c.specs.declared.refusal.Refusal.{Refusal}
use Rattle.bevelrose_c.specs.declared.refusal.Refusal.TheVariants.{Text, Ids, Memory, Closed}

-- the inputs of a run are given what the records post to them; after that each completes
pub record IsPosted (records : List ℕ) (run : Run Steps) : Type 0 where
  pub values : PostAll (input_names run.layout.blocks) records (map (λ input. input.posted) run.trace.inputs)
  pub endings : map (λ input. input.ending) run.trace.inputs ≡ replicate (length (input_names run.layout.blocks)) Complete

module _ (plan : Layout Steps) (records : List ℕ) where
  -- nothing has happened in the plan's network, to which the records are posted
  pub record Begins (start : NetState) : Type 0 where
    pub fresh : start ≡ fresh_net plan (run_with meaning_of plan start).trace.inputs
    pub posted : IsPosted records (run_with meaning_of plan start)

  module _ (limit : ℕ) where
    -- a lawful run of this plan over these records, told as quiet exactly where nothing may happen any more, and with nothing left to do
    -- then; and its report
    pub record IsReported (settled : Settled) (complete : Bool) (written : List ℕ) : Type 0 where
      pub start : NetState
      pub now : NetState
      pub begins : Begins start
      pub settles : Settles plan (works_of meaning_of plan) limit start now settled
      pub lawful : Lawful (run_with meaning_of plan now)
      pub posted : IsPosted records (run_with meaning_of plan now)
      pub quiet : settled ≡ Quiet → IsQuiet (run_with meaning_of plan now)
      pub report_is : written ≡ report (run_with meaning_of plan now) settled
      pub complete_is : complete ≡ is_complete (run_with meaning_of plan now)

    -- the network went on to where a message is offered next whose id would be too great
    pub record UsesUpIds : Type 0 where
      pub start : NetState
      pub now : NetState
      pub begins : Begins start
      pub goes_on : GoesOn plan (works_of meaning_of plan) limit start now
      pub lawful : Lawful (run_with meaning_of plan now)
      pub posted : IsPosted records (run_with meaning_of plan now)
      pub used_up : NeedsId plan (works_of meaning_of plan) now

    -- why there is no report; of when memory is out nothing is said
    abbrev pub IsUnreported : Refusal → Type 0
    IsUnreported (Text fault) = IsOfRecords (Fault fault) × Explains (input_names plan.blocks) records (Fault fault)
    IsUnreported Ids = UsesUpIds
    IsUnreported Memory = Unit {0}
    IsUnreported Closed = ⊥

-- the status of a run: 0 where all went through
abbrev pub run_status : Settled → Bool → ℕ
run_status Quiet true = 0
run_status Quiet false = 1
run_status Stopped complete = 3

-- a plan is held, and so it is with it
abbrev pub OfHeld : Option (Layout Steps) → (Layout Steps → Type 0) → Type 0
OfHeld held P = (plan : Layout Steps) × (held ≡ Some plan) × P plan
