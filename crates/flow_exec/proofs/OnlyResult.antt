-- A job has one result: its answer is what its work makes of its message.
use Rattle.std.proofs.Common.{◌≡◌, ℕ, List, Result, ap, sym, subst, ◌∙◌}
use Rattle.std.specs.Coded.{Coded-set, codes}
use Rattle.flow_value.specs.contracts.value.Value as content
use Rattle.flow_value.specs.declared.value.Value.{Value}
use Rattle.flow_value.specs.declared.work.Runs.{Ghosts}
use Rattle.flow_exec.specs.Jobs.{work_in, kind_in, message_in}
use Rattle.flow_exec.specs.Works.{results_by}
use Rattle.flow_exec.specs.declared.job.Job.{Job}
use Rattle.flow_exec.specs.declared.result.JobResult.{JobResult}

result_set : IsSet (Result (List Value) ℕ)
result_set = Coded-set (Prim.hlevel (codes, content.the_row.coded))

pub made_prop : (one other : Result (List Value) ℕ) → IsProp (one ≡ other)
made_prop one other = result_set one other

module _ {W : Type 0} {w : Ghosts W} {e : _} where
  -- a result of a job that gave this answer
  abbrev result_with : (job : Job W) (answer : Result (List Value) ℕ)
      → answer ≡ results_by (work_in job) (kind_in job) w.meaning (message_in job) → JobResult W w e
  result_with job answer made = record { job = job; answer = answer; made = made }

  pub only_result : (one other : JobResult W w e) → one.job ≡ other.job → one ≡ other
  only_result one other same =
      subst (λ (job : Job W). (answer : Result (List Value) ℕ)
      (made : answer ≡ results_by (work_in job) (kind_in job) w.meaning (message_in job)) → one ≡ result_with job answer made)
      same
      (λ answer made. subst (λ (a : Result (List Value) ℕ).
      (m : a ≡ results_by (work_in one.job) (kind_in one.job) w.meaning (message_in one.job)) → one ≡ result_with one.job a m)
      (one.made ∙ sym made)
      (λ m. ap (result_with one.job one.answer)
      (made_prop one.answer (results_by (work_in one.job) (kind_in one.job) w.meaning (message_in one.job)) one.made m))
      made)
      other.answer other.made
