-- A job that lies in the slot is one job.
use Rattle.std.proofs.Common.{◌≡◌, ap}
use Rattle.flow_exec.specs.declared.job.Job.{Job}
use Rattle.flow_lane.specs.Items.{as_job, state_of}

module _ {W : Type 0} {w : _} {e : _} where
  pub one_job : (x y : Job W) → as_job {W = W} {w = w} {e = e} x ≡ as_job y → state_of x ≡ state_of y
  one_job x y same = let is : x ≡ y = (cc) in ap (λ (j : Job W). state_of j) is
