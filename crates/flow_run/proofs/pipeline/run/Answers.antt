use Rattle.flow_run.proofs.InputsAsPosted.{is_reported}
use Rattle.flow_run.proofs.pipeline.run.Goals as goal

pub returns-in-Ok-clause-reported : goal.returns-in-Ok-clause-reported
returns-in-Ok-clause-reported g c = is_reported c.in-Ok.ensures.reported
