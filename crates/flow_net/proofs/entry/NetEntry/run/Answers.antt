use Rattle.flow_exec.specs.Works.{works_of}
use Rattle.flow_link.specs.Planned.{layout_of}
use Rattle.std.proofs.Common.{ap, ◌∙◌}
use Rattle.flow_input.specs.Input.{InputState}
use Rattle.flow_input.specs.Sends.{sends_of}
use Rattle.flow_net.proofs.EntriesGoOn.{entry_same, kept_served, kept_then, own_then, placed_then, seen_served, there_then}
use Rattle.flow_net.proofs.NoneAsked.{unasked_on}
use Rattle.flow_net.proofs.entry.NetEntry.run.Goals as goal

pub serve-served-requires : goal.serve-served-requires
serve-served-requires g c = record { kept = c.args.self.now.kept }

pub invariant_of-self : goal.invariant_of-self
invariant_of-self g c =
    let port = c.args.self.now in
    let on = c.serve-served.ensures.goes_on in
    let engine = c.serve-served.new.self in
    let same = c.serve-served.ensures.same_plan in
    let kept = kept_served g.W.Runs.meaning port.engine.plan port.block port.link port.place port.there port.own port.placed
    on.count port.engine.parts engine.parts on.happened port.kept in
    record {
      kept = kept_then g.W.Runs.meaning port.engine.plan port.block port.link port.place port.there port.own port.placed engine.plan same engine.parts kept;
      there = there_then g.W.Runs.meaning port.engine.plan port.block port.link port.place port.there port.own port.placed engine.plan same;
      own = own_then g.W.Runs.meaning port.engine.plan port.block port.link port.place port.there port.own port.placed engine.plan same;
      placed = placed_then g.W.Runs.meaning port.engine.plan port.block port.link port.place port.there port.own port.placed engine.plan same;
      unasked = unasked_on (layout_of port.engine.plan) (works_of g.W.Runs.meaning (layout_of port.engine.plan)) on.count port.engine.parts engine.parts
          on.happened port.unasked;
    }

pub returns-clause-same : goal.returns-clause-same
returns-clause-same g c =
    let port = c.args.self.now in
    let on = c.serve-served.ensures.goes_on in
    let engine = c.serve-served.new.self in
    ap (λ (input : InputState). sends_of input)
    (entry_same g.W.Runs.meaning port.engine.plan port.block port.link port.place port.there port.own port.placed engine.plan c.serve-served.ensures.same_plan engine.parts)
    ∙ seen_served g.W.Runs.meaning port.engine.plan port.block port.link port.place port.there port.own port.placed
    on.count port.engine.parts engine.parts on.happened port.kept
