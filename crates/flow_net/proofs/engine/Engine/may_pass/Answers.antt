use Rattle.std.proofs.Common.{sym, subst}
use Rattle.flow_link.specs.Planned.{layout_of}
use Rattle.flow_block.specs.declared.planned.Route.{Route}
use Rattle.flow_moves.specs.Ready.{IsThere}
use Rattle.flow_exec.specs.Works.{works_of}
use Rattle.flow_moves.proofs.MerelyKept.{links_there}
use Rattle.flow_moves.proofs.PlansRun.{plan_runs}
use Rattle.flow_net.proofs.engine.Engine.may_pass.Goals as goal

pub may_pass-requires : goal.may_pass-requires
may_pass-requires g c =
    let now = c.args.self.now in
    let layout = layout_of now.plan in
    subst (λ (r : Route). IsThere now.parts c.args.id r) (sym c.route.ensures)
    (links_there layout (works_of g.W.Runs.meaning layout) now.parts c.requires.kept (plan_runs now.plan) c.args.id c.requires.known)
