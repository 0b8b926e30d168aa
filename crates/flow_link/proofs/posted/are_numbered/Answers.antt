use Rattle.std.proofs.Common.{◌∙◌}
use Rattle.flow_link.proofs.EndingsNumbered.{each_numbered}
use Rattle.flow_link.proofs.posted.are_numbered.Goals as goal

pub returns : goal.returns
returns c = c.each_is_numbered.ensures ∙ each_numbered c.args.posted.now
