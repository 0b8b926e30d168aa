use Rattle.std.proofs.Common.{ap, sym, ◌∙◌, None}
use Rattle.flow_value.specs.declared.value.Value.{Value}
use Rattle.flow_link.specs.declared.stage.TargetStage.{TargetStage}
use Rattle.flow_link.specs.Views as views
use Rattle.flow_link.specs.Looks.{target_finds}
use Rattle.flow_link.specs.Stage.{target_stage_of, target_looks}
use Rattle.flow_link.proofs.StagesKept.{stages_are_kept}
use Rattle.flow_wire.specs.Ends.{TargetOf}
use Rattle.flow_low_rows.proofs.receiver.Receiver.look.Goals as goal

pub invariant_of-self : goal.invariant_of-self
invariant_of-self c =
    let phase = c.look-phase.result in
    let now = c.args.self.now in record {
      knows = ap (λ (e : TargetOf). e.side.view.stage) c.look-phase.ensures.end
          ∙ ap (λ (y : views.TargetStage Value). target_finds y phase) now.knows
          ∙ sym (stages_are_kept.target now.stage None phase)
          ∙ ap (λ (y : TargetStage). target_stage_of (target_looks y phase) None) (sym c.stage-stage.ensures)
          ∙ ap (λ (y : TargetStage). target_stage_of y None) (sym c.look-self.ensures);
      facts = ap (λ (e : TargetOf). e.side.facts) c.look-phase.ensures.end ∙ now.facts;
    }
