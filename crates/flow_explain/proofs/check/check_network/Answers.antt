-- The verdict is that of the answer, which is one to the text.
use Rattle.flow_explain.proofs.check.check_network.Goals as goal

pub returns : goal.returns
returns g c = c.verdict_of.ensures.of_network _ c.in-Ok.ensures
