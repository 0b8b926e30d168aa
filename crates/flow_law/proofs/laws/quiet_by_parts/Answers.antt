use Rattle.flow_lawful.proofs.LinksAtRest.{links_rest}
use Rattle.flow_lawful.proofs.QuietByParts.{rests_compose}
use Rattle.flow_law.proofs.laws.quiet_by_parts.Goals as goal

pub returns-clause-links_rest : goal.returns-clause-links_rest
returns-clause-links_rest g c = links_rest _

pub returns-clause-quiet : goal.returns-clause-quiet
returns-clause-quiet g c = rests_compose _
