use Rattle.std.proofs.Common.{rules}
use Rattle.flow_input.proofs.OneProof.{idle_merely}
use Rattle.flow_task.proofs.EntriesBegin.{back_begins, later_begins, post_begins}
use Rattle.flow_task.proofs.numbered.Entry.begin_next.Goals as goal

pub send_back-requires : goal.send_back-requires
send_back-requires g c =
    let input = c.args.self.now.input in
    record { idle = idle_merely input.input input.law c.requires.idle; so = search rules }

pub begin_later-requires : goal.begin_later-requires
begin_later-requires g c =
    let input = c.args.self.now.input in
    record { idle = idle_merely input.input input.law c.requires.idle; so = search rules }

pub post-requires-clause-may : goal.post-requires-clause-may
post-requires-clause-may g c =
    let input = c.args.self.now.input in
    record { idle = idle_merely input.input input.law c.requires.idle; so = search rules }

pub returns-then-not-takes_more-clause-begins : goal.returns-then-not-takes_more-clause-begins
returns-then-not-takes_more-clause-begins g c =
    let input = c.args.self.now.input in
    back_begins input.input c.send_back.new.self.input.input c.args.value c.args.may_postpone input.law c.requires.idle c.requires.id
    (search rules)

pub returns-then-may_postpone-clause-begins : goal.returns-then-may_postpone-clause-begins
returns-then-may_postpone-clause-begins g c =
    let input = c.args.self.now.input in
    later_begins input.input c.begin_later.new.self.input.input c.args.value c.args.may_postpone c.begin_later.result (search rules) input.law
    c.requires.idle c.requires.id c.begin_later.ensures.begun

pub returns-else-may_postpone-clause-begins : goal.returns-else-may_postpone-clause-begins
returns-else-may_postpone-clause-begins g c =
    let input = c.args.self.now.input in
    post_begins input.input c.post.new.self.input.input c.args.value c.args.may_postpone c.post.result (search rules) input.law
    c.requires.idle c.requires.id c.post.ensures.posted
