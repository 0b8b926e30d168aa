use Rattle.std.proofs.Common.{◌∙◌, length, map}
use Rattle.flow_link.specs.Planned.{layout_of}
use Rattle.flow_link.specs.Posted.{input_of}
use Rattle.flow_net.specs.Net.{layout_in, parts_of}
use Rattle.flow_record_text.specs.Records.{input_names}
use Rattle.flow_stream.proofs.PostedAsRead.{names_count, as_many, complete_numbered, posts_to_inputs, posted_in, none_at_first}
use Rattle.flow_stream.proofs.run.begin.Goals as goal

pub new-requires-clause-one_each : goal.new-requires-clause-one_each
new-requires-clause-one_each c =
    let blocks = (layout_of c.args.plan).blocks in
    as_many c.in-Ok.posted.items (length (input_names blocks)) c.in-Ok.ensures.endings ∙ names_count blocks

pub new-requires-clause-numbered : goal.new-requires-clause-numbered
new-requires-clause-numbered c =
    complete_numbered c.in-Ok.posted.items (length (input_names (layout_of c.args.plan).blocks)) c.in-Ok.ensures.endings

pub returns-in-Ok-new-clause-none : goal.returns-in-Ok-new-clause-none
returns-in-Ok-new-clause-none c =
    let net = c.in-Ok-new.net in
    none_at_first (layout_in net) (parts_of net) (map input_of c.in-Ok.posted.items) c.in-Ok-new.ensures.fresh

pub returns-in-Ok-new-clause-posted : goal.returns-in-Ok-new-clause-posted
returns-in-Ok-new-clause-posted c =
    let plan = layout_of c.args.plan in
    let net = c.in-Ok-new.net in
    posted_in c.args.text.now (layout_in net) plan (parts_of net) c.in-Ok-new.ensures.planned
    (posts_to_inputs c.args.text.now plan (parts_of net) c.in-Ok.posted.items c.in-Ok-new.ensures.made c.in-Ok.ensures.values c.in-Ok.ensures.endings)
