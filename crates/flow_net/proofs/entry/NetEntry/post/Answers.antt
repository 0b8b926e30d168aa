use Rattle.flow_exec.specs.Works.{works_of}
use Rattle.flow_link.specs.Planned.{layout_of}
use Rattle.flow_net.proofs.EntriesGoOn.{entry_posted_by, kept_posted, own_then, there_then, placed_then, kept_then}
use Rattle.flow_net.proofs.NoneAsked.{unasked_posted}
use Rattle.flow_net.proofs.entry.NetEntry.post.Goals as goal

pub post-requires : goal.post-requires
post-requires g c =
    let port = c.args.self.now in
    record { kept = port.kept; there = port.there; own = port.own; may = c.requires.may; id = c.requires.id }

pub invariant_of-self : goal.invariant_of-self
invariant_of-self g c =
    let port = c.args.self.now in
    let engine = c.post.new.self in
    let same = c.post.ensures.same_plan in
    let kept = kept_posted g.W.Runs.meaning port.engine.plan port.block port.link port.place port.there port.own port.placed
    c.args.value port.engine.parts engine.parts c.post.result c.post.ensures.posted c.post.ensures.kept c.requires.may port.kept in
    record {
      kept = kept_then g.W.Runs.meaning port.engine.plan port.block port.link port.place port.there port.own port.placed engine.plan same engine.parts kept;
      there = there_then g.W.Runs.meaning port.engine.plan port.block port.link port.place port.there port.own port.placed engine.plan same;
      own = own_then g.W.Runs.meaning port.engine.plan port.block port.link port.place port.there port.own port.placed engine.plan same;
      placed = placed_then g.W.Runs.meaning port.engine.plan port.block port.link port.place port.there port.own port.placed engine.plan same;
      unasked = unasked_posted (layout_of port.engine.plan) (works_of g.W.Runs.meaning (layout_of port.engine.plan)) port.link port.block c.args.value
          port.engine.parts engine.parts c.post.result c.post.ensures.posted c.post.ensures.kept port.unasked;
    }

pub returns-clause-posted : goal.returns-clause-posted
returns-clause-posted g c =
    let port = c.args.self.now in
    let engine = c.post.new.self in
    entry_posted_by g.W.Runs.meaning port.engine.plan port.block port.link port.place port.there port.own port.placed
    c.args.value port.engine.parts engine.parts c.post.result c.post.ensures.posted port.kept engine.plan c.post.ensures.same_plan
