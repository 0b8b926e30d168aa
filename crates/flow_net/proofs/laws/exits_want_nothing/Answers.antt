use Rattle.flow_net.specs.Net.{layout_in, parts_of}
use Rattle.flow_net.proofs.NoneAsked.{wants_nothing}
use Rattle.flow_net.proofs.laws.exits_want_nothing.Goals as goal

pub returns : goal.returns
returns g c = wants_nothing (layout_in c.args.net.now) (parts_of c.args.net.now) c.args.net.now.unasked
