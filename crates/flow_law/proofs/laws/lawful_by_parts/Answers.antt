use Rattle.flow_lawful.proofs.LawfulByParts.{composes}
use Rattle.flow_law.proofs.laws.lawful_by_parts.Goals as goal

pub returns : goal.returns
returns g c = composes _
