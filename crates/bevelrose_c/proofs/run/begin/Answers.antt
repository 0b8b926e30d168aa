use Rattle.std.proofs.Common.{◌∙◌, length}
use Rattle.flow_link.specs.Planned.{layout_of}
use Rattle.flow_net.specs.Net.{layout_in, parts_of}
use Rattle.flow_record_text.specs.Records.{input_names}
use Rattle.bevelrose_c.proofs.Runs.{as_many, begins_made, each_named, none_faults}
use Rattle.bevelrose_c.proofs.run.begin.Goals as goal

pub new-requires-clause-one_each : goal.new-requires-clause-one_each
new-requires-clause-one_each c =
    let blocks = (layout_of c.args.plan).blocks in as_many c.in-Ok.posted.items (length (input_names blocks)) c.in-Ok.ensures.endings ∙ each_named blocks

pub new-requires-clause-numbered : goal.new-requires-clause-numbered
new-requires-clause-numbered c = none_faults c.in-Ok.posted.items (length (input_names (layout_of c.args.plan).blocks)) c.in-Ok.ensures.endings

pub returns-in-Ok-new-clause-begins : goal.returns-in-Ok-new-clause-begins
returns-in-Ok-new-clause-begins c =
    let made = c.in-Ok-new.ensures in
    begins_made (layout_of c.args.plan) c.args.records.now (layout_in c.in-Ok-new.net) (parts_of c.in-Ok-new.net) c.in-Ok.posted.items made.planned made.made made.fresh
    c.in-Ok.ensures.values c.in-Ok.ensures.endings
