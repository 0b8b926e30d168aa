-- A report of the records behind a cut, or why there is none, as it is told of the whole text.
use Rattle.std.proofs.Common.{◌⊎◌, inl, inr, Bool, true, false, ℕ, List, Option, Some, None, Result, Ok, Err, IfOk, IfErr, IfSome, ◌≡◌, ◌∙◌, refl}
use Rattle.flow_value.specs.declared.steps.Steps.{Steps}
use Rattle.flow_link.specs.Layout.{Layout}
use Rattle.flow_link.specs.Trace.{Run}
use Rattle.flow_core.specs.State.{NetState}
use Rattle.flow_fault_text.specs.declared.fault.TextFault.TheVariants.{Write}
use Rattle.flow_fault_text.specs.declared.fault.TextRefusal.{TextRefusal}
use Rattle.flow_fault_text.specs.declared.fault.TextRefusal.TheVariants.{Fault}
use Rattle.flow_run.specs.Left.{IsLeft}
use Rattle.flow_run.specs.Ran.{Begins, HasRun, IsPosted, HasUnreadRecords, IsReported, IsReportedOf, IsUnreported}
use Rattle.flow_run.specs.Split.{IsSplit}
use Rattle.flow_run.specs.declared.outcome.Ran.{Ran}
use Rattle.flow_run.specs.declared.outcome.RunRefusal.{RunRefusal}
use Rattle.flow_run.specs.declared.outcome.RunRefusal.TheVariants.{Text, Ids, Memory}
use Rattle.flow_cli.specs.Failure.{IsUnread}
use Rattle.flow_cli.specs.Reported.{IsReportedIn, IsRefusedIn}

-- what a fact of an answer implies holds of the answer
pub ok_carries : {T E : Type 0} (r : Result T E) (P Q : T → Type 0) → IfOk r P → ((x : T) → P x → Q x) → IfOk r Q
ok_carries (Ok x) P Q p carries = carries x p
ok_carries (Err e) P Q p carries = p

-- what known records post is what any do
pub posted_of_any : {W : Type 0} {run : Run W} (records : Option (List ℕ)) → IsPosted records run → IsPosted None run
posted_of_any records posted = record { values = tt; endings = posted.endings }

pub begins_of_any : {text : List ℕ} {layout : Layout Steps} {start : NetState} (records : Option (List ℕ)) → Begins text records layout start → Begins text None layout start
begins_of_any records begins = record { planned = begins.planned; fresh = begins.fresh; posted = posted_of_any records begins.posted }

pub has_run_of_any : {workers limit : ℕ} {layout : Layout Steps} {start now : NetState} (records : Option (List ℕ)) → HasRun records workers limit layout start now
    → HasRun None workers limit layout start now
has_run_of_any records r = record { lawful = r.lawful; posted = posted_of_any records r.posted; one_by_one = r.one_by_one }

-- a report of known records that were written somehow is one of any
pub of_any : {text : List ℕ} {workers limit : ℕ} {Written : List ℕ → Type 0} {layout : Layout Steps} {now : NetState}
    {ran : Ran} (records : Option (List ℕ)) → IsReportedOf text records workers limit Written layout now ran
    → IsReportedOf text None workers limit (λ report. Unit {0}) layout now ran
of_any records r = record {
  start = r.start;
  begins = begins_of_any records r.begins;
  has_run = has_run_of_any records r.has_run;
  has_ended = r.has_ended;
  written = tt;
  complete = r.complete;
}

-- where the report of a run was not written whole, this is why there is none
pub unwritten : {text : List ℕ} {records : Option (List ℕ)} {workers limit : ℕ} {Written : List ℕ → Type 0}
    {layout : Layout Steps} {now : NetState} {ran : Ran} → IsReportedOf text records workers limit Written layout now ran
    → IsUnreported text records workers limit (Text Write)
unwritten {layout = layout} {now = now} {ran = ran} r = inr (record {
  is_write = refl;
  layout = layout;
  start = r.start;
  now = now;
  settled = ran.settled;
  begins = r.begins;
  has_run = r.has_run;
  has_ended = r.has_ended;
})

-- what a fact of a refusal implies holds of the refusal
pub err_carries : {T E : Type 0} (r : Result T E) (P Q : E → Type 0) → IfErr r P → ((e : E) → P e → Q e) → IfErr r Q
err_carries (Ok x) P Q p carries = p
err_carries (Err e) P Q p carries = carries e p

-- why known records were not run over is why any were not
pub unread_of_any : (text : List ℕ) (records : Option (List ℕ)) (refusal : TextRefusal) → HasUnreadRecords text records refusal → HasUnreadRecords text None refusal
unread_of_any text records refusal h = record { layout = h.layout; planned = h.planned; of_records = h.of_records; explained = tt }

pub refused_of_any : (text : List ℕ) (records : Option (List ℕ)) (workers limit : ℕ) (refusal : RunRefusal)
    → IsUnreported text records workers limit refusal → IsUnreported text None workers limit refusal
refused_of_any text records workers limit (Text fault) (inl (inl unplanned)) = inl (inl unplanned)
refused_of_any text records workers limit (Text fault) (inl (inr unread)) = inl (inr (unread_of_any text records (Fault fault) unread))
refused_of_any text records workers limit (Text fault) (inr h) =
    inr (record {
      is_write = h.is_write;
      layout = h.layout;
      start = h.start;
      now = h.now;
      settled = h.settled;
      begins = begins_of_any records h.begins;
      has_run = has_run_of_any records h.has_run;
      has_ended = h.has_ended;
    })
refused_of_any text records workers limit Ids h = record {
  layout = h.layout;
  start = h.start;
  now = h.now;
  begins = begins_of_any records h.begins;
  has_run = has_run_of_any records h.has_run;
  used_up = h.used_up;
}
refused_of_any text records workers limit Memory _ = tt

-- the same of what it is told as: as want of memory where memory was out
pub told_of_any : (text : List ℕ) (records : Option (List ℕ)) (workers limit : ℕ) (lacks_memory : Bool) (refusal told : RunRefusal)
    → (lacks_memory ≡ true → told ≡ Memory) → (lacks_memory ≡ false → told ≡ refusal)
    → IsUnreported text records workers limit refusal → IsUnreported text None workers limit told
told_of_any text records workers limit true refusal told memory other h = rw (memory refl) tt
told_of_any text records workers limit false refusal told memory other h = rw (other refl) (refused_of_any text records workers limit refusal h)

-- what is read is the same bytes as what is cut
whole_as : (known : Option (List ℕ)) (read text : List ℕ) → IfSome known (λ bytes. read ≡ bytes) → text ≡ read → IfSome known (λ bytes. text ≡ bytes)
whole_as None read text is same = tt
whole_as (Some bytes) read text is same = same ∙ is

-- a report of the records behind the cut is one of the text
pub reported_in : (known : Option (List ℕ)) (read text before after : List ℕ) → IfSome known (λ bytes. read ≡ bytes) → text ≡ read → IsSplit text before after
    → (workers limit : ℕ) (Written : List ℕ → Type 0) (ran : Ran) → IsReported before (Some after) workers limit Written ran
    → IsReportedIn known workers limit Written ran
reported_in known read text before after is same split workers limit Written ran r =
    record { text = text; whole = whole_as known read text is same; before = before; after = after; split = split; reported = r }

-- why the records behind the cut were not run over
pub refused_in : (known : Option (List ℕ)) (read text before after : List ℕ) → IfSome known (λ bytes. read ≡ bytes) → text ≡ read → IsSplit text before after
    → (workers limit : ℕ) (refusal : RunRefusal) → IsUnreported before (Some after) workers limit refusal
    → IsUnread refusal ⊎ IsRefusedIn known workers limit refusal
refused_in known read text before after is same split workers limit refusal r =
    inr (record { text = text; whole = whole_as known read text is same; before = before; after = after; split = split; refused = r })
