use Rattle.std.proofs.Common.{◌≡◌, Bool, true, false, refl, ap, sym, ◌∙◌}
use Rattle.flow_exit.specs.Exit.{fresh_exit}
use Rattle.flow_net.specs.Serves.{has_enough}
use Rattle.flow_net.proofs.FirstThere.{at_first, at_none}
use Rattle.flow_net.proofs.engine.Engine.exit_has_enough.Goals as goal

-- where nothing has come, nobody has enough
none_enough : (waits : Bool) → has_enough waits fresh_exit ≡ false
none_enough true = refl
none_enough false = refl

pub returns-in-Some : goal.returns-in-Some
returns-in-Some g c =
    let found = rw c.in-Some.is at c.find_exit.ensures in
    c.has_enough.ensures
    ∙ ap (has_enough c.args.waits) (sym (at_first fresh_exit c.args.self.now.parts.exits c.args.place c.in-Some.exit.now
    (sym found)))

pub returns-in-None : goal.returns-in-None
returns-in-None g c =
    let none = rw c.in-None.is at c.find_exit.ensures in
    sym (ap (has_enough c.args.waits) (at_none fresh_exit c.args.self.now.parts.exits c.args.place (sym none))
    ∙ none_enough c.args.waits)
