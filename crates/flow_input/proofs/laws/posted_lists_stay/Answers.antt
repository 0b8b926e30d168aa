use Rattle.flow_input.proofs.PostedKept.{posted_is_kept}
use Rattle.flow_input.proofs.laws.posted_lists_stay.Goals as goal

pub returns : goal.returns
returns c = posted_is_kept
