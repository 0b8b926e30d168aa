-- So many events, and then a run with those that are left of the limit: together they are a run of the whole limit.
use Rattle.std.proofs.Common.{◌≡◌, ℕ, ◌+◌, ◌-◌, ◌≤◌, List, Result, Ok, Err, IfOk, subst, arith}
use Rattle.flow_value.specs.declared.value.Value.{Value}
use Rattle.flow_value.specs.declared.work.WorkFault.{WorkFault}
use Rattle.flow_link.specs.declared.plan.Plan.{Plan}
use Rattle.flow_link.specs.Layout.{Layout}
use Rattle.flow_link.specs.Planned.{layout_of}
use Rattle.flow_core.specs.State.{NetState}
use Rattle.flow_exec.specs.Works.{works_of}
use Rattle.flow_net.specs.Happened.{Happened}
use Rattle.flow_net.specs.Settles.{GoesOn, Settles}
use Rattle.flow_net.specs.declared.fault.NetFault.{NetFault}
use Rattle.flow_net.specs.declared.settled.Settled.{Settled}
use Rattle.flow_net.proofs.EventsCount.{happened_on}

module _ {W : Type 0} (layout : Layout W) (meaning : ℕ → Value → Result (List Value) ℕ) (limit done : ℕ) (old mid new : NetState)
    (within : done ≤ limit) (before : Happened layout meaning done old mid) where
  pub goes_on_after : GoesOn layout meaning (limit - done) mid new → GoesOn layout meaning limit old new
  goes_on_after goes = record {
    count = done + goes.count;
    within = let less = goes.within in omega (arith, within, less);
    happened = happened_on layout meaning done goes.count old mid new before goes.happened;
  }

  settles_after : (how : Settled) → Settles layout meaning (limit - done) mid new how → Settles layout meaning limit old new how
  settles_after how settles = record {
    count = done + settles.count;
    within = let less = settles.within in omega (arith, within, less);
    happened = happened_on layout meaning done settles.count old mid new before settles.happened;
    quiet = settles.quiet;
    all_done = λ stopped. let all = settles.all_done stopped in omega (arith, within, all);
    not_quiet = settles.not_quiet;
  }

  pub settled_after : (result : Result Settled NetFault) → IfOk result (Settles layout meaning (limit - done) mid new)
      → IfOk result (Settles layout meaning limit old new)
  settled_after (Ok how) settles = settles_after how settles
  settled_after (Err fault) settles = settles

-- the same of a network whose plan stays
module _ {W : Type 0} (meaning : W → Value → Result (List Value) WorkFault) (first then_is : Plan W) (same : then_is ≡ first)
    (limit done : ℕ) (old mid new : NetState) (within : done ≤ limit)
    (before : Happened (layout_of first) (works_of meaning (layout_of first)) done old mid) where
  pub happened_by_plan : (more : ℕ) → Happened (layout_of then_is) (works_of meaning (layout_of then_is)) more mid new
      → Happened (layout_of first) (works_of meaning (layout_of first)) (done + more) old new
  happened_by_plan more then_on =
      happened_on (layout_of first) (works_of meaning (layout_of first)) done more old mid new before
      (subst (λ (p : Plan W). Happened (layout_of p) (works_of meaning (layout_of p)) more mid new) same then_on)

  pub goes_on_by_plan : GoesOn (layout_of then_is) (works_of meaning (layout_of then_is)) (limit - done) mid new
      → GoesOn (layout_of first) (works_of meaning (layout_of first)) limit old new
  goes_on_by_plan goes =
      goes_on_after (layout_of first) (works_of meaning (layout_of first)) limit done old mid new within before
      (subst (λ (p : Plan W). GoesOn (layout_of p) (works_of meaning (layout_of p)) (limit - done) mid new) same goes)

  pub settled_by_plan : (result : Result Settled NetFault)
      → IfOk result (Settles (layout_of then_is) (works_of meaning (layout_of then_is)) (limit - done) mid new)
      → IfOk result (Settles (layout_of first) (works_of meaning (layout_of first)) limit old new)
  settled_by_plan result settles =
      settled_after (layout_of first) (works_of meaning (layout_of first)) limit done old mid new within before result
      (subst (λ (p : Plan W). IfOk result (Settles (layout_of p) (works_of meaning (layout_of p)) (limit - done) mid new)) same
      settles)
