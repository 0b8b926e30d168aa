use Rattle.std.proofs.Common.{◌≡◌, ◌<◌, true, length, get_or, is_some, sym, ap, subst, ◌∙◌}
use Rattle.std.proofs.lemmas.List.{get_or_read}
use Rattle.flow_input.specs.Input.{InputState, no_input, next_value}
use Rattle.flow_core.specs.State.{NetState}
use Rattle.flow_moves.specs.Ways.{input_in}
use Rattle.flow_moves.proofs.MovesPrepared.{next_is_there}
use Rattle.flow_moves.proofs.parts.Parts.send.Goals as goal

pub send-requires-clause-there : goal.send-requires-clause-there
send-requires-clause-there c =
    let net = c.args.self.now in
    let k = c.args.route.now.source_place in
    let there : k < length net.inputs = rw c.in-Input.is at c.requires.there in
    let ready = rw c.in-Input.is at c.requires.ready in
    let found = c.index_mut-in-Input.result.now in
    let is = c.index_mut-in-Input.ensures.value ∙ ap (λ (now : NetState). get_or now.inputs k found) c.self.view_is in
    let input = input_in net k in
    subst (λ (one : InputState). is_some (next_value one) ≡ true) (sym (get_or_read net.inputs k found there is no_input))
    (next_is_there input.sent input.posted ready.may.there)
