use Rattle.std.proofs.Common.{ap}
use native.Mathlib.Omega.{arith}
use Rattle.crossbeam_queue.specs.Passes.{view}
use Rattle.flow_crew.proofs.Keeps.{forks, merges}
use Rattle.flow_crew.proofs.crew.+crew+fn-crew-back+fn-crew-front.Goals as goal

pub another-other-requires-clause-rule : goal.another-other-requires-clause-rule
another-other-requires-clause-rule g t c =
    let most = c.requires.pass.0 in
    let two = c.if-workers-lt2.false in
    forks g.J.Round.all c.args.pass.id (view c.args.pass) (omega arith)

pub absorb-requires-clause-rule : goal.absorb-requires-clause-rule
absorb-requires-clause-rule g t c =
    let most = c.requires.pass.0 in
    let two = c.if-workers-lt2.false in
    let cut = ap (λ v. v.parts) c.another-other.ensures.rule.0 in
    let back = c.join-pass.ensures.first.1 in
    merges g.J.Round.all c.join-pass.result.0.0.id (view c.join-pass.result.0.0) c.join-pass.result.1.0.id (view c.join-pass.result.1.0) (omega arith)
