use Rattle.flow_intake.proofs.EndingsCounted.{completion_counted}
use Rattle.flow_intake.proofs.ends.Ends.has_seen_completion.Goals as goal

pub returns : goal.returns
returns c = rw (c.self.invariant.2, ← c.self.view_is) (completion_counted c.self.inside.ends.items)
