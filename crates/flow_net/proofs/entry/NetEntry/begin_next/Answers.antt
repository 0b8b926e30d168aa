use Rattle.std.proofs.Common.{rules}
use Rattle.flow_input.proofs.OneProof.{idle_merely}
use Rattle.flow_net.specs.Entries.{entry_of}
use Rattle.flow_net.proofs.EntriesGoOn.{entry_law, later_begins, post_begins}
use Rattle.flow_net.proofs.entry.NetEntry.begin_next.Goals as goal

pub send_back-requires : goal.send_back-requires
send_back-requires g c =
    let port = c.args.self.now in
    record { idle = idle_merely (entry_of port) (entry_law g.W.Runs.meaning port.engine.plan port.block port.link port.place port.there port.own port.placed port.engine.parts port.kept) c.requires.idle; so = search rules }

pub begin_later-requires : goal.begin_later-requires
begin_later-requires g c =
    let port = c.args.self.now in
    record { idle = idle_merely (entry_of port) (entry_law g.W.Runs.meaning port.engine.plan port.block port.link port.place port.there port.own port.placed port.engine.parts port.kept) c.requires.idle; so = search rules }

pub post-requires-clause-may : goal.post-requires-clause-may
post-requires-clause-may g c =
    let port = c.args.self.now in
    record { idle = idle_merely (entry_of port) (entry_law g.W.Runs.meaning port.engine.plan port.block port.link port.place port.there port.own port.placed port.engine.parts port.kept) c.requires.idle; so = search rules }

pub returns-then-may_postpone-clause-begins : goal.returns-then-may_postpone-clause-begins
returns-then-may_postpone-clause-begins g c =
    let port = c.args.self.now in
    later_begins c.begin_later.result (entry_of port) (entry_of c.begin_later.new.self) c.args.value c.args.may_postpone (search rules)
    (entry_law g.W.Runs.meaning port.engine.plan port.block port.link port.place port.there port.own port.placed port.engine.parts port.kept) c.requires.idle c.requires.id c.begin_later.ensures.begun

pub returns-else-may_postpone-clause-begins : goal.returns-else-may_postpone-clause-begins
returns-else-may_postpone-clause-begins g c =
    let port = c.args.self.now in
    post_begins c.post.result (entry_of port) (entry_of c.post.new.self) c.args.value c.args.may_postpone (search rules)
    (entry_law g.W.Runs.meaning port.engine.plan port.block port.link port.place port.there port.own port.placed port.engine.parts port.kept) c.requires.idle c.requires.id c.post.ensures.posted
