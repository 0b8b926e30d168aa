use Rattle.std.proofs.Common.{rules}
use Rattle.flow_link.specs.Planned.{layout_of}
use Rattle.flow_net.proofs.EntriesGoOn.{entry_there, found_at, found_in, never_entry, shut_in}
use Rattle.flow_net.proofs.net.Net.entry.Goals as goal

pub returns-in_default-clause-none : goal.returns-in_default-clause-none
returns-in_default-clause-none g c =
    never_entry (layout_of c.args.self.engine.plan) c.args.self.engine.parts c.args.input c.in_default.ensures.none

pub input-requires : goal.input-requires
input-requires g c =
    let engine = c.args.self.engine in
    let link = c.in-Some.link in
    let found = c.in-Some.ensures in
    entry_there g.W.Runs.meaning engine.plan c.args.input link c.route.result.now.source_place found.there found.leads
    (found_at (layout_of engine.plan) c.args.input link found.leads c.route.result.now c.route.ensures) engine.parts c.args.self.kept

pub returns-then-not-is_open-clause-none : goal.returns-then-not-is_open-clause-none
returns-then-not-is_open-clause-none g c =
    let engine = c.args.self.engine in
    let link = c.in-Some.link in
    let found = c.in-Some.ensures in
    let at = found_at (layout_of engine.plan) c.args.input link found.leads c.route.result.now c.route.ensures in
    shut_in (layout_of engine.plan) engine.parts c.args.input c.route.result.now.source_place at (search rules)

pub invariant_of-result : goal.invariant_of-result
invariant_of-result g c =
    let engine = c.args.self.engine in
    let found = c.in-Some.ensures in
    record {
      kept = c.args.self.kept;
      there = found.there;
      own = found.leads;
      placed = found_at (layout_of engine.plan) c.args.input c.in-Some.link found.leads c.route.result.now c.route.ensures;
      unasked = c.args.self.unasked;
    }

pub returns-clause-stays_open : goal.returns-clause-stays_open
returns-clause-stays_open g c =
    let engine = c.args.self.engine in
    let found = c.in-Some.ensures in
    let at = found_at (layout_of engine.plan) c.args.input c.in-Some.link found.leads c.route.result.now c.route.ensures in
    found_in (layout_of engine.plan) engine.parts c.args.input c.route.result.now.source_place at (search rules)
