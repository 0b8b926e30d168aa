-- A step of an input's task: the input merely is in order, so it is afterwards, and its end knows what it then knows.
use Rattle.std.proofs.Common.{◌≡◌, ℕ, ◌<◌, ◌^◌, true, List, length, Some, refl, sym, ap, ◌∙◌, subst}
use Rattle.std.proofs.Math.Logic.{∥∥₁_elim, ∥∥₁_map}
use Rattle.std.specs.Coded.{codes}
use Rattle.atomic_table.specs.Seated.{TableId, table_id_coded}
use Rattle.flow_value.specs.contracts.value.Value as content
use Rattle.flow_link.specs.declared.phase.Move.{Move}
use Rattle.flow_link.specs.declared.phase.Move.TheVariants as move
use Rattle.flow_link.specs.declared.phase.Phase.{Phase}
use Rattle.flow_link.specs.declared.plan.LinkSource.{LinkSource}
use Rattle.flow_link.specs.declared.plan.LinkSource.TheVariants.{Block, Input}
use Rattle.flow_link.specs.Facts.{facts_in}
use Rattle.flow_link.specs.Layout.{Layout}
use Rattle.flow_link.specs.Looks.{looking_out}
use Rattle.flow_link.specs.Plan.{link_in}
use Rattle.flow_link.specs.Views.{SourceView}
use Rattle.flow_outlet.specs.End.{id_of}
use Rattle.flow_input.specs.Input.{InputState, InputCall, after_input, input_move, input_view, next_value}
use Rattle.flow_input.specs.InputKeeps.{InputLaw}
use Rattle.flow_input.proofs.InputsMove.{inputs_keep}
use Rattle.flow_core.specs.Events.{input_after, input_call}
use Rattle.flow_core.specs.Keeps.{IsRun}
use Rattle.flow_core.specs.MovesFit.{OutFits}
use Rattle.flow_core.proofs.EndsStep.{input_steps}
use Rattle.flow_core.proofs.InputsFit.{inputs_fit}
use Rattle.flow_moves.specs.Calls.{handed}
use Rattle.flow_moves.specs.Ready.{InputIsReady}
use Rattle.flow_moves.proofs.MovesReady.{input_ready}
use Rattle.flow_moves.proofs.OneProof.{input_ready_prop}
use Rattle.flow_task.specs.Inputs.{is_of_input, begins_at_input, input_due, HasId}
use Rattle.flow_task.specs.Known.{OutKnown}
use Rattle.flow_task.specs.Words.{MayMoveOut, moved_out}
use Rattle.flow_task.proofs.TaskSteps.{out_knows}
use Rattle.flow_task.proofs.WordsFit.{out_moved, out_may, out_prop}

Known-set : IsSet OutKnown
Known-set = Prim.hlevel (codes, table_id_coded, content.the_row.coded)

-- an offer has an id
has_id : (next : Move) → HasId next → (id : ℕ) → next ≡ move.Offer id → id < 2 ^ 59
has_id next has id is = subst HasId is has

module _ {W : Type 0} (layout : Layout W) (run : IsRun layout) (wires : List TableId) (l : ℕ) (there : l < length layout.links)
    (begins : begins_at_input layout l ≡ true) (input : InputState) (law : ∥ InputLaw input ∥₁) where
  -- it looks
  pub look_law : (phase : Phase) → ∥ InputLaw (after_input (InputCall.look phase) input) ∥₁
  look_law phase = ∥∥₁_map law (λ i. inputs_keep.calls input (InputCall.look phase) i tt)

  pub look_knows : (phase : Phase) (known : OutKnown) → known ≡ out_knows (looking_out phase (input_view input)) (input_due layout wires l input)
      → known ≡ input_due layout wires l (after_input (InputCall.look phase) input)
  look_knows phase known is =
      ∥∥₁_elim law (Known-set _ _) (λ i.
      is ∙ ap (λ (view : SourceView _). out_knows view (input_due layout wires l input)) (sym (inputs_keep.views input (InputCall.look phase) i tt)))

  -- it moves
  module _ (next : Move) (peek : input_move input ≡ Some next) where
    abbrev after_move : InputState
    after_move = input_after (input_call next) input

    fits_by : (source : LinkSource) → (link_in layout.links l).source ≡ source → is_of_input source ≡ true → InputLaw input
        → OutFits (facts_in layout l) (next_value input) next (input_view input) (input_view after_move)
    fits_by (Input b) from is i =
        inputs_fit inputs_keep (facts_in layout l) (run.leads.inputs_unlimited l b there from) (run.leads.inputs_pass l b there from)
        input i next peek
    fits_by (Block b) from is i = absurd (cc)

    fits : InputLaw input → OutFits (facts_in layout l) (next_value input) next (input_view input) (input_view after_move)
    fits i = fits_by (link_in layout.links l).source refl begins i

    pub move_ready : HasId next → InputIsReady next input
    move_ready has =
        ∥∥₁_elim law (input_ready_prop next input) (λ i.
        input_ready input i next (inputs_keep.next input next i peek) (has_id next has))

    pub move_may : MayMoveOut next (id_of input.stage) (handed next (next_value input)) (facts_in layout l) (input_view input)
    move_may =
        ∥∥₁_elim law (out_prop next (id_of input.stage) (handed next (next_value input)) (facts_in layout l) (input_view input)) (λ i.
        out_may (facts_in layout l) (next_value input) (input_view input) (input_view after_move) input.stage refl next (fits i))

    pub move_law : ∥ InputLaw after_move ∥₁
    move_law = ∥∥₁_map law (λ i. input_steps inputs_keep input i next (inputs_keep.next input next i peek))

    pub move_knows : (known : OutKnown)
        → known ≡ out_knows (moved_out next (handed next (next_value input)) (input_view input)) (input_due layout wires l input)
        → known ≡ input_due layout wires l after_move
    move_knows known is =
        ∥∥₁_elim law (Known-set _ _) (λ i.
        is ∙ ap (λ (view : SourceView _). out_knows view (input_due layout wires l input))
        (sym (out_moved (facts_in layout l) (next_value input) (input_view input) (input_view after_move) next (fits i))))
