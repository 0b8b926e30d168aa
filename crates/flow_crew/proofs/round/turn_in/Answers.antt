use Rattle.std.proofs.Common.{◌∙◌, ap}
use native.Mathlib.Omega.{arith}
use Rattle.flow_crew.specs.Numbers.{weigh, numbers}
use Rattle.flow_crew.proofs.Tasks.{all_length, weigh-reverse}
use Rattle.flow_crew.proofs.round.turn_in.Goals as goal

pub put_in-requires-clause-queue : goal.put_in-requires-clause-queue
put_in-requires-clause-queue g c =
    let cap = c.in-Ok.ensures.0 in
    let count = c.len-count.ensures in
    let len = c.args.tasks.ok.0 in
    (c.in-Ok.ensures.1, omega (arith, all_length g.J.Round.all c.args.tasks.items c.requires.all))

pub crew-pass-requires-clause-queue : goal.crew-pass-requires-clause-queue
crew-pass-requires-clause-queue g c κs within = c.put_in.ensures.queue

pub take_out-requires-clause-room : goal.take_out-requires-clause-room
take_out-requires-clause-room g c =
    let len = c.args.tasks.ok.0 in
    let most = c.args.tasks.ok.1 in
    let room = c.put_in.ensures.tasks.1 in
    (c.put_in.ensures.tasks.0, omega (arith, all_length g.J.Round.all c.args.tasks.items c.requires.all))

pub returns-then-done-clause-refused : goal.returns-then-done-clause-refused
returns-then-done-clause-refused g c = (
  λ h. c.take_out.ensures.all h ∙ (ap (λ l. weigh h l) c.requires.all ∙ weigh-reverse h (numbers c.args.tasks.items)),
  c.take_out.ensures.in_round,
)

pub returns-clause-back : goal.returns-clause-back
returns-clause-back g c = (
  λ h. c.take_out.ensures.all h ∙ (ap (λ l. weigh h l) c.requires.all ∙ weigh-reverse h (numbers c.args.tasks.items)),
  c.take_out.ensures.in_round,
)
