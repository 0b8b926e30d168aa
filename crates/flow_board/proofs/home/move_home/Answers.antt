use Rattle.std.proofs.Common.{ap, ◌∙◌}
use Rattle.flow_core.specs.State.{NetState, line_at}
use Rattle.flow_exec.specs.Works.{works_of}
use Rattle.flow_net.specs.Net.{layout_in, parts_of}
use Rattle.flow_board.proofs.TargetsTake.{none_taken, not_refused, one_taken, others_stay, phase_is}
use Rattle.flow_board.proofs.home.move_home.Goals as goal

pub returns-in-Ok-clause-moved : goal.returns-in-Ok-clause-moved
returns-in-Ok-clause-moved g c =
    let net = c.args.net.now in
    phase_is (layout_in net) (parts_of net) c.args.id c.args.next (works_of g.W.Runs.meaning (layout_in net)) net.kept c.requires.there
    c.requires.next (parts_of c.event.new.self) c.in-Ok.ensures.moved

pub returns-in-Ok-clause-others : goal.returns-in-Ok-clause-others
returns-in-Ok-clause-others g c = λ l other.
    let net = c.args.net.now in
    ap (λ (now : NetState). line_at now l) c.in-Ok.ensures.moved
    ∙ others_stay (layout_in net) (works_of g.W.Runs.meaning (layout_in net)) c.args.id c.args.next l other (parts_of net)

pub returns-in-Ok-clause-goes_on : goal.returns-in-Ok-clause-goes_on
returns-in-Ok-clause-goes_on g c =
    let net = c.args.net.now in
    one_taken g.W.Runs.meaning (layout_in net) (parts_of net) (parts_of c.event.new.self) c.args.id c.args.next c.requires.next
    c.in-Ok.ensures.enabled c.in-Ok.ensures.moved

pub returns-in-Memory-clause-goes_on : goal.returns-in-Memory-clause-goes_on
returns-in-Memory-clause-goes_on g c =
    let net = c.args.net.now in
    none_taken g.W.Runs.meaning (layout_in net) (parts_of net) (parts_of c.event.new.self) c.in-Err.ensures.kept

pub unreachable-requires : goal.unreachable-requires
unreachable-requires g c =
    let net = c.args.net.now in
    not_refused (layout_in net) (parts_of net) c.args.id c.args.next (works_of g.W.Runs.meaning (layout_in net)) net.kept c.requires.there
    c.requires.next c.in-Err.fault c.in-NotEnabled.is c.in-Err.ensures.why
