use Rattle.std.proofs.Common.{sym, subst}
use Rattle.std.proofs.lemmas.Grind.{merely}
use Rattle.flow_block.specs.Node.{NodeState}
use Rattle.flow_poll.specs.Turns.{Extends}
use Rattle.flow_poll.proofs.EachGoes.{extends_itself}
use Rattle.flow_task.specs.Begun.{begun_journal}
use Rattle.flow_task.specs.declared.board.Board.{Board}
use Rattle.flow_task.proofs.LanesStayOut.{made_out}
use Rattle.flow_task.proofs.board.Board.make_block.Goals as goal

pub invariant_of-result-2-clause-begins : goal.invariant_of-result-2-clause-begins
invariant_of-result-2-clause-begins g c =
    let journal = c.args.node.journal in
    merely (subst (λ (board : Board _). Extends (begun_journal board c.args.number) journal) (sym c.of.ensures)
    (subst (λ (node : NodeState). Extends node.journal journal) c.requires.begun (extends_itself journal)))

pub invariant_of-result : goal.invariant_of-result
invariant_of-result g c = record { out = made_out c.args.node c.lanes_in.result c.lanes_in.ensures }
