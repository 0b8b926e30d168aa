use Rattle.std.proofs.Common.{refl}
use Rattle.flow_exit.specs.Exit.{ExitCall}
use Rattle.flow_net.proofs.ExitsGoOn.{kept_called, kept_looked, kept_settled, own_looked, over_looked, place_there, placed_looked, received_looked, there_looked}
use Rattle.flow_link.specs.Planned.{layout_of}
use Rattle.flow_exec.specs.Works.{works_of}
use Rattle.flow_net.proofs.NoneAsked.{unasked_looked}
use Rattle.flow_net.proofs.exit.NetExit.look.Goals as goal

pub ask-requires : goal.ask-requires
ask-requires g c =
    let port = c.args.self.now in
    place_there g.W.Runs.meaning port.engine.plan port.block port.link port.place port.there port.own port.placed
    port.engine.parts port.kept

pub serve-served-requires : goal.serve-served-requires
serve-served-requires g c =
    let port = c.args.self.now in
    record {
      kept = kept_called g.W.Runs.meaning port.engine.plan port.block port.link port.place port.there port.own port.placed
          (ExitCall.ask c.args.waits) refl port.engine.parts c.ask.new.self c.ask.ensures port.kept;
    }

pub ask-requires-2 : goal.ask-requires-2
ask-requires-2 g c =
    let port = c.args.self.now in
    let on = c.serve-served.ensures.goes_on in
    let settled = c.serve-served.new.self.parts in
    place_there g.W.Runs.meaning port.engine.plan port.block port.link port.place port.there port.own port.placed settled
    (kept_settled g.W.Runs.meaning port.engine.plan port.block port.link port.place port.there port.own port.placed
    c.args.waits on.count port.engine.parts c.ask.new.self settled port.kept c.ask.ensures on.happened)

pub invariant_of-self-3 : goal.invariant_of-self-3
invariant_of-self-3 g c =
    let port = c.args.self.now in
    let on = c.serve-served.ensures.goes_on in
    let engine = c.serve-served.new.self in
    let same = c.serve-served.ensures.same_plan in
    let kept = kept_looked g.W.Runs.meaning port.engine.plan port.block port.link port.place port.there port.own port.placed
    c.args.waits on.count port.engine.parts c.ask.new.self engine.parts port.kept c.ask.ensures on.happened
    c.ask-2.new.self c.ask-2.ensures engine.plan same in (
      (engine.routed, tt),
      (
        kept,
        (
          there_looked g.W.Runs.meaning port.engine.plan port.block port.link port.place port.there port.own port.placed engine.plan same,
          (
            own_looked g.W.Runs.meaning port.engine.plan port.block port.link port.place port.there port.own port.placed engine.plan same,
            (
              placed_looked g.W.Runs.meaning port.engine.plan port.block port.link port.place port.there port.own port.placed engine.plan same,
              (
                unasked_looked (layout_of port.engine.plan) (works_of g.W.Runs.meaning (layout_of port.engine.plan)) port.place on.count c.args.waits
                    port.engine.parts c.ask.new.self engine.parts c.ask-2.new.self c.ask.ensures on.happened c.ask-2.ensures port.unasked,
                tt,
              ),
            ),
          ),
        ),
      ),
    )

pub returns-clause-received : goal.returns-clause-received
returns-clause-received g c =
    let port = c.args.self.now in
    let on = c.serve-served.ensures.goes_on in
    let engine = c.serve-served.new.self in
    received_looked g.W.Runs.meaning port.engine.plan port.block port.link port.place port.there port.own port.placed
    c.args.waits on.count port.engine.parts c.ask.new.self engine.parts port.kept c.ask.ensures on.happened
    c.ask-2.new.self c.ask-2.ensures engine.plan c.serve-served.ensures.same_plan

pub returns-clause-over : goal.returns-clause-over
returns-clause-over g c =
    let port = c.args.self.now in
    let on = c.serve-served.ensures.goes_on in
    let engine = c.serve-served.new.self in
    over_looked g.W.Runs.meaning port.engine.plan port.block port.link port.place port.there port.own port.placed
    c.args.waits on.count port.engine.parts c.ask.new.self engine.parts port.kept c.ask.ensures on.happened
    c.ask-2.new.self c.ask-2.ensures engine.plan c.serve-served.ensures.same_plan
