-- The job of a result.
use Rattle.std.specs.Prelude.{◌≡◌}
use Rattle.flow_exec.specs.declared.job.Job.{Job}
use Rattle.flow_exec.specs.declared.result.JobResult.{JobResult}

abbrev pub job_in : {W : Type 0} {w : _} {e : _} → JobResult W w e → Job W
job_in done = done.job

-- no other result is of the same job
abbrev pub IsOnly : {W : Type 0} {w : _} {e : _} → JobResult W w e → Type 0
IsOnly {W} {w} {e} done = (other : JobResult W w e) → job_in other ≡ job_in done → done ≡ other
