-- Where an event is done, one event more has happened; one that is asked for is done or changes nothing.
use Rattle.std.proofs.Common.{◌≡◌, ℕ, zero, suc, ◌+◌, ◌-◌, ◌≤◌, List, Result, Ok, Err, OnOk, OnErr, refl, sym, subst, ◌∙◌, arith}
use Rattle.flow_value.specs.declared.value.Value.{Value}
use Rattle.flow_value.specs.declared.work.WorkFault.{WorkFault}
use Rattle.flow_link.specs.declared.plan.Plan.{Plan}
use Rattle.flow_link.specs.Layout.{Layout}
use Rattle.flow_link.specs.Planned.{layout_of}
use Rattle.flow_core.specs.Events.{NetEvent, MayHappen, after}
use Rattle.flow_core.specs.Keeps.{NetKeeps}
use Rattle.flow_core.specs.State.{NetState}
use Rattle.flow_exec.specs.Works.{works_of}
use Rattle.flow_moves.proofs.PlansRun.{plan_runs}
use Rattle.flow_net.specs.Settles.{GoesOn}
use Rattle.flow_net.specs.Happened.{Happened}
use Rattle.flow_net.proofs.KeptOn.{kept_on}

module _ {W : Type 0} (layout : Layout W) (meaning : ℕ → Value → Result (List Value) ℕ) where
  pub one_more_event : (count : ℕ) (start old new : NetState) (event : NetEvent)
      → Happened layout meaning count start old → MayHappen layout meaning event old → new ≡ after layout meaning event old
      → Happened layout meaning (count + 1) start new
  one_more_event count start old new event happened may is =
      subst (λ (n : ℕ). Happened layout meaning n start new) (suc_is count)
      (old, (happened, record { event = event; may = may; new_is = is }))
    where
      suc_is : (k : ℕ) → suc k ≡ k + 1
      suc_is k = omega arith

  pub one_event_at_most : {T E : Type 0} (result : Result T E) (event : NetEvent) (old new : NetState)
      → OnOk result (MayHappen layout meaning event old) → OnOk result (new ≡ after layout meaning event old)
      → OnErr result (new ≡ old) → GoesOn layout meaning 1 old new
  one_event_at_most (Ok x) event old new may is same =
      record { count = 1; within = omega arith; happened = one_more_event 0 old old new event refl may is }
  one_event_at_most (Err e) event old new may is same = record { count = 0; within = omega arith; happened = same }

  pub none_happened : (count : ℕ) (old new : NetState) → count ≡ 0 → Happened layout meaning count old new → new ≡ old
  none_happened count old new none happened = subst (λ (n : ℕ). Happened layout meaning n old new) none happened

  -- so many events, and then as many more
  pub happened_on : (first more : ℕ) (old mid new : NetState) → Happened layout meaning first old mid → Happened layout meaning more mid new
      → Happened layout meaning (first + more) old new
  happened_on first zero old mid new before same =
      let none : first ≡ first + 0 = omega arith in
      subst (λ (n : ℕ). Happened layout meaning n old new) none
      (subst (λ (net : NetState). Happened layout meaning first old net) (sym same) before)
  happened_on first (suc more) old mid new before (last, (then_on, leads)) =
      let one : suc (first + more) ≡ first + suc more = omega arith in
      subst (λ (n : ℕ). Happened layout meaning n old new) one (last, (happened_on first more old mid last before then_on, leads))

-- so many of the limit have been done, and what came then changed nothing
pub goes_on_so_far : {W : Type 0} (layout : Layout W) (meaning : ℕ → Value → Result (List Value) ℕ) (limit rest : ℕ)
    (start before new : NetState) → rest ≤ limit → Happened layout meaning (limit - rest) start before → new ≡ before
    → GoesOn layout meaning limit start new
goes_on_so_far layout meaning limit rest start before new small happened same = record {
  count = limit - rest;
  within = omega (arith, small);
  happened = subst (λ (net : NetState). Happened layout meaning (limit - rest) start net) (sym same) happened;
}

-- one round of a run: an event is found, which changes nothing, and so many events happen
module _ {W : Type 0} (meaning : W → Value → Result (List Value) WorkFault) (first before found then_is : Plan W)
    (start old mid new : NetState) (limit rest count : ℕ) where
  pub rounds_more : let layout = layout_of first in let works = works_of meaning layout in
      (before ≡ first) × ∥ NetKeeps layout works old ∥₁ × (rest ≤ limit) × Happened layout works (limit - rest) start old
      → found ≡ before → mid ≡ old → then_is ≡ found → count ≤ rest
      → Happened (layout_of found) (works_of meaning (layout_of found)) count mid new
      → (then_is ≡ first) × ∥ NetKeeps layout works new ∥₁ × (rest - count ≤ limit)
      × Happened layout works (limit - (rest - count)) start new
  rounds_more so_far same_found same_parts same_plan within more =
      let layout = layout_of first in
      let works = works_of meaning layout in
      let here : found ≡ first = same_found ∙ so_far.0 in
      let more_here : Happened layout works count old new =
      subst (λ (net : NetState). Happened layout works count net new) same_parts
      (subst (λ (plan : Plan W). Happened (layout_of plan) (works_of meaning (layout_of plan)) count mid new) here more) in
      let small : rest ≤ limit = so_far.2 in
      let sum : limit - rest + count ≡ limit - (rest - count) = omega (arith, small, within) in (
        same_plan ∙ here,
        kept_on layout works (plan_runs first) count old new more_here so_far.1,
        omega (arith, small),
        subst (λ (n : ℕ). Happened layout works n start new) sum
            (happened_on layout works (limit - rest) count start old new so_far.3 more_here),
      )
