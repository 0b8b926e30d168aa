-- Why an event of the program is refused, by why its event of the network's state is not done.
use Rattle.std.proofs.Common.{◌≡◌, ◌≢◌, ℕ, Bool, List, Result, Ok, Err, IfErr, refl, subst, sym}
use Rattle.std.specs.Result.{IsErrAnd}
use Rattle.flow_value.specs.declared.value.Value.{Value}
use Rattle.flow_link.specs.Layout.{Layout}
use Rattle.flow_exec.specs.Jobs.{ticket_in}
use Rattle.flow_exec.specs.Results.{job_in}
use Rattle.flow_exec.specs.declared.result.JobResult.{JobResult}
use Rattle.flow_core.specs.Events.{NetEvent, Enabled, HasIds, MayHappen}
use Rattle.flow_core.specs.State.{NetState}
use Rattle.flow_outlet.specs.declared.fault.OutletFault.{OutletFault}
use Rattle.flow_outlet.specs.declared.fault.OutletFault.TheVariants as outlet
use Rattle.flow_net.specs.Events.{IsOfJob, IsRefused, net_event}
use Rattle.flow_net.specs.OwnJobs.{IsOwnJob}
use Rattle.flow_net.specs.There.{IsWhyNot}
use Rattle.flow_net.specs.Told.{fault_of}
use Rattle.flow_net.specs.declared.event.Event.{Event}
use Rattle.flow_net.specs.declared.event.Event.TheVariants.{End}
use Rattle.flow_net.specs.declared.fault.NetFault.{NetFault}
use Rattle.flow_net.specs.declared.fault.NetFault.TheVariants.{NotEnabled, Ids, Memory}

pub ids_of_outlet : (fault : OutletFault) → fault_of fault ≡ Ids → fault ≡ outlet.Ids
ids_of_outlet outlet.Ids is = refl
ids_of_outlet outlet.Memory is = absurd (cc)

pub not_ids_of_outlet : (fault : OutletFault) → fault_of fault ≡ Memory → fault ≢ outlet.Ids
not_ids_of_outlet outlet.Ids is same = absurd (cc)
not_ids_of_outlet outlet.Memory is same = absurd (cc)

-- an event that is enabled and is not done is refused for ids or for memory
module _ {W : Type 0} (layout : Layout W) (meaning : ℕ → Value → Result (List Value) ℕ) (net : NetState) (event : NetEvent) where
  pub enabled_refused : {T : Type 0} (result : Result T NetFault) → Enabled layout net event
      → (result ≡ Err Ids → MayHappen layout meaning event net → ⊥) → (result ≡ Err Memory → MayHappen layout meaning event net)
      → (result ≢ Err NotEnabled) → IfErr result (IsWhyNot layout meaning net event)
  enabled_refused (Ok done) enabled used_up memory never = tt
  enabled_refused (Err NotEnabled) enabled used_up memory never = absurd (never refl)
  enabled_refused (Err Ids) enabled used_up memory never = record {
    enabled = enabled;
    none_left = λ ids. used_up refl (record { enabled = enabled; ids = ids });
  }
  enabled_refused (Err Memory) enabled used_up memory never = memory refl

  -- one that may happen, where only memory can be out
  pub memory_refused : {T : Type 0} (result : Result T NetFault) → IsErrAnd result (λ fault. fault ≡ Memory)
      → MayHappen layout meaning event net → IfErr result (IsWhyNot layout meaning net event)
  memory_refused (Ok done) is may = tt
  memory_refused (Err fault) is may = subst (λ (told : NetFault). IsWhyNot layout meaning net event told) (sym is) may

module _ {W : Type 0} (equal : W → W → Bool) (layout : Layout W) (meaning : ℕ → Value → Result (List Value) ℕ) (net : NetState) where
  -- an event that is no job's is refused for what the network's state tells
  pub refused_so : {w : _} {e : _} (event : Event W w e) (fault : NetFault) → (IsOfJob event → ⊥)
      → IsWhyNot layout meaning net (net_event event) fault → IsRefused equal layout meaning net event fault
  refused_so (End b done) fault driven why = absurd (driven tt)
  refused_so _ fault driven why = why

  -- a result is refused where it is not of the block's own job, and else for ids or for memory
  pub result_refused : {w : _} {e : _} (b : ℕ) (done : JobResult W w e) (fault : NetFault)
      → (fault ≡ NotEnabled → IsOwnJob equal layout net b (job_in done) → ⊥)
      → (fault ≢ NotEnabled → IsOwnJob equal layout net b (job_in done))
      → (fault ≡ Ids → HasIds layout meaning (NetEvent.end_job b (ticket_in (job_in done))) net → ⊥)
      → (fault ≡ Memory → HasIds layout meaning (NetEvent.end_job b (ticket_in (job_in done))) net)
      → IsRefused equal layout meaning net (End b done) fault
  result_refused b done NotEnabled strange own used_up ids = strange refl
  result_refused b done Ids strange own used_up ids =
      let its : IsOwnJob equal layout net b (job_in done) = own (λ is. absurd (cc)) in
      (its, record { enabled = record { there = its.there; would = its.out }; none_left = used_up refl })
  result_refused b done Memory strange own used_up ids =
      let its : IsOwnJob equal layout net b (job_in done) = own (λ is. absurd (cc)) in
      (its, record { enabled = record { there = its.there; would = its.out }; ids = ids refl })
