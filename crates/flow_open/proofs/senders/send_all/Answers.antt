use Rattle.std.proofs.Common.{refl, ◌∙◌}
use Rattle.flow_open.proofs.Each.{each_sends_none, each_sends_on}
use Rattle.flow_open.proofs.senders.send_all.Goals as goal

pub loop-init : goal.loop-init
loop-init g c = record {
  of = c.requires.of;
  numbers = refl;
  sends = each_sends_none _ _ _;
}

pub loop-preserved-then-send_round : goal.loop-preserved-then-send_round
loop-preserved-then-send_round g c = record {
  of = c.send_round.ensures.of;
  numbers = c.send_round.ensures.numbers ∙ c.loop.invariant.numbers;
  sends = each_sends_on _ _ _ _ _ _ _ c.loop.invariant.sends c.send_round.ensures.sends;
}

pub loop-preserved : goal.loop-preserved
loop-preserved g c = record {
  of = c.send_round.ensures.of;
  numbers = c.send_round.ensures.numbers ∙ c.loop.invariant.numbers;
  sends = each_sends_on _ _ _ _ _ _ _ c.loop.invariant.sends c.send_round.ensures.sends;
}
