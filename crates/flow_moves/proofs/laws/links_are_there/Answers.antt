use Rattle.flow_moves.proofs.LinksThere.{links_are_there}
use Rattle.flow_moves.proofs.laws.links_are_there.Goals as goal

pub returns : goal.returns
returns g c = links_are_there _
