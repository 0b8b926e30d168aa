use Rattle.std.proofs.Common.{◌≡◌, length}
use Rattle.flow_block.specs.JobsOut.{MayPutOut, puts_rest}
use Rattle.flow_block.proofs.block.Block.put_all.Given as goal

-- what is still to come out comes out as all of it would at first
abbrev pub invariant-loop : goal.invariant-loop
invariant-loop l = record {
  ready : MayPutOut l.self;
  rest : puts_rest l.self.jobs.slots l.self ≡ puts_rest l.initial.self.jobs.slots l.initial.self;
}

abbrev pub decreases-loop : goal.decreases-loop
decreases-loop l = length l.self.jobs.slots
