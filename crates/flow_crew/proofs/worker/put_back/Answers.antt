use Rattle.std.proofs.Common.{◌∷◌, ◌<◌, drop, ap, sym, subst, ◌∙◌}
use Rattle.crossbeam_queue.specs.Passes.{view, ruled_capacity}
use Rattle.flow_crew.specs.declared.rule.Hand.{Hand}
use Rattle.flow_crew.proofs.Keeps.{puts}
use Rattle.flow_crew.proofs.worker.put_back.Goals as goal

pub try_push_as-requires-clause-rule : goal.try_push_as-requires-clause-rule
try_push_as-requires-clause-rule g c =
    let v = view c.loop.pass in
    let was = view c.args.pass.now in
    let same = c.loop.invariant.view in
    puts g.J.Round.all (ruled_capacity c.args.queue.now) c.loop.pass.id v c.loop.item (drop 1 was.holds)
    (subst (λ (hand : Hand). 0 < hand.parts) (sym same) c.requires.part)
    (ap (λ (hand : Hand). hand.holds) same ∙ c.requires.first ∙ ap (λ n. n ∷ drop 1 was.holds) (sym c.loop.invariant.item))
