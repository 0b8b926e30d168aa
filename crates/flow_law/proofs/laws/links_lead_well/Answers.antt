use Rattle.flow_link.proofs.LinksLead.{links_lead}
use Rattle.flow_law.proofs.laws.links_lead_well.Goals as goal

pub returns : goal.returns
returns g c = links_lead _
