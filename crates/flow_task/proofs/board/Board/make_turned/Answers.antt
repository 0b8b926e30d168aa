use Rattle.std.proofs.Common.{sym, subst}
use Rattle.std.proofs.lemmas.Grind.{merely}
use Rattle.flow_input.specs.Input.{InputState}
use Rattle.flow_input.specs.InputKeeps.{PostedStays}
use Rattle.flow_input.proofs.PostedKept.{posted_is_kept}
use Rattle.flow_task.specs.Begun.{begun_input}
use Rattle.flow_task.specs.declared.board.Board.{Board}
use Rattle.flow_task.proofs.board.Board.make_turned.Goals as goal

pub invariant_of-result-clause-begins : goal.invariant_of-result-clause-begins
invariant_of-result-clause-begins g c =
    let part = c.args.input in
    merely (subst (λ (board : Board _). PostedStays (begun_input board part.link) part.input) (sym c.requires.its)
    (subst (λ (begun : InputState). PostedStays begun part.input) c.requires.begun (posted_is_kept.same part.input)))
