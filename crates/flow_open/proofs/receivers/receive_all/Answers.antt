use Rattle.std.proofs.Common.{refl, ◌∙◌}
use Rattle.flow_open.proofs.Each.{each_takes_none, each_takes_on}
use Rattle.flow_open.proofs.receivers.receive_all.Goals as goal

pub loop-init : goal.loop-init
loop-init g c = record {
  of = c.requires.of;
  numbers = refl;
  takes = each_takes_none _ _ _;
}

pub loop-preserved-then-receive_round : goal.loop-preserved-then-receive_round
loop-preserved-then-receive_round g c = record {
  of = c.receive_round.ensures.of;
  numbers = c.receive_round.ensures.numbers ∙ c.loop.invariant.numbers;
  takes = each_takes_on _ _ _ _ _ _ _ c.loop.invariant.takes c.receive_round.ensures.takes;
}

pub loop-preserved : goal.loop-preserved
loop-preserved g c = record {
  of = c.receive_round.ensures.of;
  numbers = c.receive_round.ensures.numbers ∙ c.loop.invariant.numbers;
  takes = each_takes_on _ _ _ _ _ _ _ c.loop.invariant.takes c.receive_round.ensures.takes;
}
