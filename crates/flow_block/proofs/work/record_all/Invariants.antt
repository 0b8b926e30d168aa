use Rattle.std.proofs.Common.{◌≡◌, ◌+◌, ◌≤◌, ◌++◌, length, cond, is_some, vec_len, vec_capacity}
use Rattle.flow_block.specs.Jobs.{comes_out}
use Rattle.flow_block.specs.JobsOut.{jobs_recorded, port_recorded}
use Rattle.flow_block.proofs.work.record_all.Given as goal

abbrev pub invariant-loop-values : goal.invariant-loop-values
invariant-loop-values l = record {
  space : vec_len l.recorded + length (comes_out l.jobs.slots) ≤ vec_capacity l.recorded;
  held : length l.jobs.slots ≤ length l.port.waiting;
  room : cond (is_some l.port.capacity) (length l.port.waiting) 0 ≤ l.port.load;
  recorded : l.recorded.items ++ comes_out l.jobs.slots ≡ l.initial.recorded.items ++ comes_out l.initial.jobs.slots;
  jobs : jobs_recorded l.jobs.slots l.jobs ≡ jobs_recorded l.initial.jobs.slots l.initial.jobs;
  port : port_recorded l.jobs.slots l.port ≡ port_recorded l.initial.jobs.slots l.initial.port;
}

abbrev pub decreases-loop-values : goal.decreases-loop-values
decreases-loop-values l = length l.jobs.slots
