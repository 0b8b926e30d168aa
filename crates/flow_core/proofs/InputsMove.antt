-- A move of an input's end of its link keeps the link in order.
use Rattle.std.proofs.Common.{◌≡◌, true, Option, Some, None, arith}
use Rattle.flow_value.specs.declared.value.Value.{Value}
use Rattle.flow_link.specs.declared.phase.Move.TheVariants as move
use Rattle.flow_link.specs.declared.phase.Phase.{Phase}
use Rattle.flow_link.specs.Facts.{facts_in}
use Rattle.flow_link.specs.LinkOk.{LinkOk}
use Rattle.flow_link.specs.Phase.{phase_after}
use Rattle.flow_link.specs.Views.{TargetView, LinkFacts, crossed}
use Rattle.flow_outlet.specs.End.{is_free}
use Rattle.flow_input.specs.Input.{InputState, InputCall, after_input, input_view, next_id, next_value}
use Rattle.flow_input.specs.InputKeeps.{InputLaw, InputsKeep, MayCallInput}
use Rattle.flow_core.specs.Events.{input_after, input_call}
use Rattle.flow_core.specs.OneMove.{SourceMoved, InputsMoveWell}
use Rattle.flow_core.proofs.FitsKeepOrder.{source_moves, post_moves}
use Rattle.flow_core.proofs.InputsFit.{inputs_fit, has_room}
use Rattle.flow_core.proofs.StagesFit.{is_at_home}

-- its caller posts a value
pub posts : (facts : LinkFacts) (phase new : Phase) (slot : Option Value) (target : TargetView Value) (input : InputState)
    → InputLaw input → InputsKeep → facts.max ≡ None → LinkOk facts phase slot (input_view input) target
    → (value : Value) → MayCallInput (InputCall.post value) input → is_free input.stage ≡ true
    → phase_after phase (move.Post (next_id input)) ≡ Some new
    → SourceMoved facts new slot (input_view (after_input (InputCall.post value) input)) target
posts facts phase new slot target input law keeps unlimited ok value may free allowed =
    let view = input_view input in
    post_moves facts phase new slot target (next_id input) view (input_view (after_input (InputCall.post value) input))
    (is_at_home input.stage free) (omega arith) (has_room facts.max (crossed view) unlimited)
    (keeps.views input (InputCall.post value) law may) ok allowed

pub inputs_move : {W : Type 0} → InputsKeep → InputsMoveWell W
inputs_move keeps layout runs l b low begins input law phase new slot target next ok peek allowed =
    let facts = facts_in layout l in
    let fits =
    inputs_fit keeps facts (runs.leads.inputs_unlimited l b low begins) (runs.leads.inputs_pass l b low begins) input law next peek in
    source_moves facts phase new slot target (next_value input) next (input_view input)
    (input_view (input_after (input_call next) input)) fits ok allowed
