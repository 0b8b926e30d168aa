use Rattle.std.proofs.Common.{List, ap, subst, sym, ◌∙◌}
use Rattle.flow_value.specs.declared.value.Value.{Value}
use Rattle.flow_link.specs.Trace.{gave_over, marks_of}
use Rattle.flow_core.specs.Statements.{IsReceivedOf}
use Rattle.flow_exit.specs.Exit.{ExitState}
use Rattle.flow_moves.specs.Ways.{exit_in}
use Rattle.flow_net.specs.Exits.{exit_run}
use Rattle.flow_net.proofs.ExitsGoOn.{place_there, was_given}
use Rattle.flow_net.proofs.exit.NetExit.received.Goals as goal

pub exit-requires : goal.exit-requires
exit-requires g c =
    let port = c.args.self.now in
    place_there g.W.Runs.meaning port.engine.plan port.block port.link port.place port.there port.own port.placed
    port.engine.parts port.kept

pub returns-clause-given : goal.returns-clause-given
returns-clause-given g c =
    let port = c.args.self.now in
    let given = was_given g.W.Runs.meaning port.engine.plan port.block port.link port.place port.there port.own port.placed
    port.engine.parts port.kept in
    let same = c.received.ensures ∙ ap (λ (exit : ExitState). exit.received)
    (c.exit.ensures ∙ ap (exit_in port.engine.parts) port.placed) in
    subst (λ (received : List Value). IsReceivedOf received
    (gave_over port.link (marks_of (exit_run g.W.Runs.meaning port) port.block))) (sym same) given
