use Rattle.std.proofs.Common.{◌≡◌, sym, subst}
use Rattle.flow_link.specs.Planned.{layout_of}
use Rattle.flow_task.specs.Inputs.{input_due}
use Rattle.flow_task.specs.Known.{out_known}
use Rattle.flow_task.specs.declared.board.Board.{Board}
use Rattle.flow_task.proofs.board.Board.make_input.Goals as goal

pub invariant_of-result-clause-knows : goal.invariant_of-result-clause-knows
invariant_of-result-clause-knows g c =
    subst (λ (board : Board _). out_known c.args.out ≡ input_due (layout_of board.rest.plan) board.wires.items c.args.link c.args.input)
    (sym c.of.ensures) c.requires.known
