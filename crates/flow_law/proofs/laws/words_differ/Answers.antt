use Rattle.flow_link.proofs.WordsDiffer.{words_tell}
use Rattle.flow_law.proofs.laws.words_differ.Goals as goal

pub returns : goal.returns
returns c = words_tell
