use Rattle.std.proofs.Common.{ap, sym, ◌∙◌}
use Rattle.flow_input.specs.Sends.{has_answer}
use Rattle.flow_net.proofs.EntriesGoOn.{first_there}
use Rattle.flow_net.proofs.engine.Engine.input_has_answer.Goals as goal

pub returns-in-Some : goal.returns-in-Some
returns-in-Some g c =
    let found = rw c.in-Some.is at c.find_input.ensures in
    c.has_answer.ensures ∙ ap has_answer (sym (first_there c.args.self.now.parts.inputs c.args.place c.in-Some.input.now (sym found)))
