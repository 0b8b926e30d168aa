-- A network that merely is in order goes on being so by any number of events, and what is posted to it stays.
use Rattle.std.proofs.Common.{◌≡◌, ℕ, zero, suc, true, List, [], ◌∷◌, map, Result, Ok, Err, IfOk, refl, ap, sym, subst}
use Rattle.flow_value.specs.declared.value.Value.{Value}
use Rattle.flow_value.specs.declared.work.WorkFault.{WorkFault}
use Rattle.flow_link.specs.declared.plan.Plan.{Plan}
use Rattle.flow_lawful.specs.Lawful.{Lawful}
use Rattle.flow_link.specs.Layout.{Layout}
use Rattle.flow_link.specs.Planned.{layout_of}
use Rattle.flow_lawful.specs.Quiet.{Quiet as IsQuiet}
use Rattle.flow_link.specs.Trace.{InputTrace}
use Rattle.flow_input.specs.Input.{fresh_input, input_trace}
use Rattle.flow_core.specs.AtRest.{AtRest}
use Rattle.flow_core.specs.Inputs.{InputsStay, none_posted}
use Rattle.flow_core.specs.Keeps.{IsRun, NetKeeps}
use Rattle.flow_core.specs.State.{NetState}
use Rattle.flow_core.specs.Statements.{IsStill}
use Rattle.flow_core.proofs.InputsChange.{all_further, all_same, event_stays, same_where_none_posted}
use Rattle.flow_core.proofs.StillRests.{at_rest_merely}
use Rattle.flow_exec.specs.Works.{works_of}
use Rattle.flow_moves.proofs.MerelyKept.{kept_after, lawful_merely, quiet_merely}
use Rattle.flow_moves.proofs.PlansRun.{plan_runs}
use Rattle.flow_net.specs.Net.{run_with}
use Rattle.flow_net.specs.Settles.{Settles}
use Rattle.flow_net.specs.Happened.{Happened}
use Rattle.flow_net.specs.declared.fault.NetFault.{NetFault}
use Rattle.flow_net.specs.declared.settled.Settled.{Settled}
use Rattle.flow_net.specs.declared.settled.Settled.TheVariants.{Quiet}

module _ {W : Type 0} (layout : Layout W) (meaning : ℕ → Value → Result (List Value) ℕ) (runs : IsRun layout) where
  pub kept_on : (count : ℕ) (old new : NetState) → Happened layout meaning count old new
      → ∥ NetKeeps layout meaning old ∥₁ → ∥ NetKeeps layout meaning new ∥₁
  kept_on zero old new same kept = subst (λ (net : NetState). ∥ NetKeeps layout meaning net ∥₁) (sym same) kept
  kept_on (suc count) old new (mid, (before, last)) kept =
      subst (λ (net : NetState). ∥ NetKeeps layout meaning net ∥₁) (sym last.new_is)
      (kept_after layout meaning mid (kept_on count old mid before kept) runs last.event last.may)

  pub inputs_on : (count : ℕ) (old new : NetState) → Happened layout meaning count old new → InputsStay old new
  inputs_on zero old new same = subst (InputsStay old) (sym same) (all_same old)
  inputs_on (suc count) old new (mid, (before, last)) =
      all_further old mid new (inputs_on count old mid before)
      (subst (InputsStay mid) (sym last.new_is) (event_stays layout meaning mid last.event))

  pub posted_on : (count : ℕ) (old new : NetState) → Happened layout meaning count old new → none_posted old ≡ true
      → map input_trace new.inputs ≡ map input_trace old.inputs
  posted_on count old new happened none = same_where_none_posted old new (inputs_on count old new happened) none

  -- an answer that it is quiet
  pub still_if_settled : (limit : ℕ) (old new : NetState) (result : Result Settled NetFault)
      → IfOk result (Settles layout meaning limit old new) → result ≡ Ok Quiet → IsStill layout meaning new
  still_if_settled limit old new (Ok how) settles is = settles.quiet (cc)
  still_if_settled limit old new (Err fault) settles is = absurd (cc)

-- what is posted to a network in which nothing has happened
pub fresh_posted : (posted : List InputTrace) → map input_trace (map fresh_input posted) ≡ posted
fresh_posted [] = refl
fresh_posted (input ∷ posted) = ap (◌∷◌ input) (fresh_posted posted)

-- the same of a network whose plan stays
module _ {W : Type 0} (works : W → Value → Result (List Value) WorkFault) (plan same_plan : Plan W) (count : ℕ) (old new : NetState)
    (same : same_plan ≡ plan) (happened : Happened (layout_of plan) (works_of works (layout_of plan)) count old new)
    (kept : ∥ NetKeeps (layout_of plan) (works_of works (layout_of plan)) old ∥₁) where
  pub kept_by_plan : ∥ NetKeeps (layout_of same_plan) (works_of works (layout_of same_plan)) new ∥₁
  kept_by_plan =
      subst (λ (p : Plan W). ∥ NetKeeps (layout_of p) (works_of works (layout_of p)) new ∥₁) (sym same)
      (kept_on (layout_of plan) (works_of works (layout_of plan)) (plan_runs plan) count old new happened kept)

  pub lawful_by_plan : Lawful (run_with works (layout_of same_plan) new)
  lawful_by_plan =
      lawful_merely (layout_of same_plan) (works_of works (layout_of same_plan)) new kept_by_plan (plan_runs same_plan)

  still_by_plan : IsStill (layout_of plan) (works_of works (layout_of plan)) new
      → IsStill (layout_of same_plan) (works_of works (layout_of same_plan)) new
  still_by_plan still = subst (λ (p : Plan W). IsStill (layout_of p) (works_of works (layout_of p)) new) (sym same) still

  pub quiet_by_plan : IsStill (layout_of plan) (works_of works (layout_of plan)) new → IsQuiet (run_with works (layout_of same_plan) new)
  quiet_by_plan still =
      quiet_merely (layout_of same_plan) (works_of works (layout_of same_plan)) new kept_by_plan (plan_runs same_plan) (still_by_plan still)

  pub rests_by_plan : IsStill (layout_of plan) (works_of works (layout_of plan)) new → AtRest (layout_of same_plan) new
  rests_by_plan still =
      at_rest_merely (layout_of same_plan) (works_of works (layout_of same_plan)) new (plan_runs same_plan) kept_by_plan (still_by_plan still)
