use Rattle.flow_link.proofs.JournalsGrow.{journals_grow}
use Rattle.flow_law.proofs.laws.journals_grow.Goals as goal

pub returns : goal.returns
returns c = journals_grow
