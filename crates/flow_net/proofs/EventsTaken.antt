-- What becomes of an event that the program asks for, by what becomes of the same event of the network's state.
use Rattle.std.proofs.Common.{◌≡◌, ◌≢◌, ℕ, Bool, List, Result, Ok, Err, refl, sym, ap, subst}
use Rattle.flow_value.specs.declared.value.Value.{Value}
use Rattle.flow_value.specs.declared.work.WorkFault.{WorkFault}
use Rattle.flow_link.specs.Planned.{layout_of}
use Rattle.flow_core.specs.Events.{NetEvent}
use Rattle.flow_exec.specs.Jobs.{ticket_in}
use Rattle.flow_exec.specs.Results.{job_in}
use Rattle.flow_exec.specs.Works.{works_of}
use Rattle.flow_exec.specs.declared.job.Job.{Job}
use Rattle.flow_exec.specs.declared.result.JobResult.{JobResult}
use Rattle.flow_net.specs.Engine.{GoesOnIn, HasIdsIn, IsWhyNotIn, MayHappenIn, parts_after}
use Rattle.flow_net.specs.Events.{IsOfJob, net_event}
use Rattle.flow_net.specs.OwnJobs.{IsOwnJob, IsNextJob}
use Rattle.flow_net.specs.Taken.{Takes}
use Rattle.flow_net.specs.declared.engine.Engine.{Engine}
use Rattle.flow_net.specs.declared.event.Event.{Event}
use Rattle.flow_net.specs.declared.event.Event.TheVariants.{Begin, End}
use Rattle.flow_net.specs.declared.event.Stepped.{Stepped}
use Rattle.flow_net.specs.declared.event.Stepped.TheVariants.{Moved, Began}
use Rattle.flow_net.specs.declared.fault.NetFault.{NetFault}
use Rattle.flow_net.specs.declared.fault.NetFault.TheVariants.{NotEnabled, Ids, Memory}
use Rattle.flow_net.proofs.EventsAnswer.{done_answers, no_result}
use Rattle.flow_net.proofs.EventsCount.{one_event_at_most}
use Rattle.flow_net.proofs.EventsRefused.{result_refused, refused_so}

module _ {W : Type 0} {w : _} {e : _} (equal : W → W → Bool) (meaning : W → Value → Result (List Value) WorkFault)
    (old new : Engine W) (same_plan : new.plan ≡ old.plan) where
  -- an event that is no job's
  module _ (event : Event W w e) (due : NetEvent) (same : net_event event ≡ due) (driven : IsOfJob event → ⊥) where
    pub step_done : MayHappenIn meaning old due → new.parts ≡ parts_after meaning old due
        → Takes equal meaning old new event (Ok Moved)
    step_done may moved = record {
      same_plan = same_plan;
      enabled = subst (λ (it : NetEvent). MayHappenIn meaning old it) (sym same) may;
      moved = subst (λ (it : NetEvent). new.parts ≡ parts_after meaning old it) (sym same) moved;
      answers = done_answers equal (layout_of old.plan) old.parts event Moved driven refl;
      own = no_result equal (layout_of old.plan) old.parts event driven;
      kept = tt;
      why = tt;
      back = tt;
    }

    pub step_refused : (fault : NetFault) → new.parts ≡ old.parts → IsWhyNotIn meaning old due fault
        → Takes equal meaning old new event (Err (event, fault))
    step_refused fault kept why = record {
      same_plan = same_plan;
      enabled = tt;
      moved = tt;
      answers = tt;
      own = tt;
      kept = kept;
      why = refused_so equal (layout_of old.plan) (works_of meaning (layout_of old.plan)) old.parts event fault driven
          (subst (λ (it : NetEvent). IsWhyNotIn meaning old it fault) (sym same) why);
      back = refl;
    }

  -- a job begins
  module _ (event : Event W w e) (b : ℕ) (is : event ≡ Begin b) where
    pub begin_done : (job : Job W) → MayHappenIn meaning old (NetEvent.begin b)
        → new.parts ≡ parts_after meaning old (NetEvent.begin b) → IsNextJob equal (layout_of old.plan) old.parts b job
        → Takes equal meaning old new event (Ok (Began job))
    begin_done job may moved next =
        subst (λ (it : Event W w e). Takes equal meaning old new it (Ok (Began job))) (sym is) (record {
          same_plan = same_plan;
          enabled = may;
          moved = moved;
          answers = next;
          own = tt;
          kept = tt;
          why = tt;
          back = tt;
        })

    pub begin_refused : (fault : NetFault) → new.parts ≡ old.parts → IsWhyNotIn meaning old (NetEvent.begin b) fault
        → Takes equal meaning old new event (Err (Begin b, fault))
    begin_refused fault kept why =
        subst (λ (it : Event W w e). Takes equal meaning old new it (Err (Begin b, fault))) (sym is) (record {
          same_plan = same_plan;
          enabled = tt;
          moved = tt;
          answers = tt;
          own = tt;
          kept = kept;
          why = why;
          back = refl;
        })

  -- a result comes back
  module _ (event : Event W w e) (b : ℕ) (done : JobResult W w e) (is : event ≡ End b done) where
    pub end_done : MayHappenIn meaning old (NetEvent.end_job b (ticket_in (job_in done)))
        → new.parts ≡ parts_after meaning old (NetEvent.end_job b (ticket_in (job_in done)))
        → IsOwnJob equal (layout_of old.plan) old.parts b (job_in done)
        → Takes equal meaning old new event (Ok Moved)
    end_done may moved own =
        subst (λ (it : Event W w e). Takes equal meaning old new it (Ok Moved)) (sym is) (record {
          same_plan = same_plan;
          enabled = may;
          moved = moved;
          answers = tt;
          own = own;
          kept = tt;
          why = tt;
          back = tt;
        })

    pub end_refused : (given : JobResult W w e) (fault : NetFault) → given ≡ done → new.parts ≡ old.parts
        → (fault ≡ NotEnabled → IsOwnJob equal (layout_of old.plan) old.parts b (job_in done) → ⊥)
        → (fault ≢ NotEnabled → IsOwnJob equal (layout_of old.plan) old.parts b (job_in done))
        → (fault ≡ Ids → HasIdsIn meaning old (NetEvent.end_job b (ticket_in (job_in done))) → ⊥)
        → (fault ≡ Memory → HasIdsIn meaning old (NetEvent.end_job b (ticket_in (job_in done))))
        → Takes equal meaning old new event (Err (End b given, fault))
    end_refused given fault back kept strange own used_up ids =
        subst (λ (it : Event W w e). Takes equal meaning old new it (Err (End b given, fault))) (sym is) (record {
          same_plan = same_plan;
          enabled = tt;
          moved = tt;
          answers = tt;
          own = tt;
          kept = kept;
          why = result_refused equal (layout_of old.plan) (works_of meaning (layout_of old.plan)) old.parts b done fault strange
              own
              used_up ids;
          back = ap (λ (it : JobResult W w e). End b it) back;
        })

-- it is one event at most
pub goes_on_taken : {W : Type 0} {w : _} {e : _} (equal : W → W → Bool) (meaning : W → Value → Result (List Value) WorkFault)
    (old new : Engine W) (event : Event W w e) (answer : Result (Stepped W) (Event W w e × NetFault))
    → Takes equal meaning old new event answer → GoesOnIn meaning 1 old new
goes_on_taken equal meaning old new event answer takes =
    one_event_at_most (layout_of old.plan) (works_of meaning (layout_of old.plan)) answer (net_event event) old.parts new.parts
    takes.enabled takes.moved takes.kept
