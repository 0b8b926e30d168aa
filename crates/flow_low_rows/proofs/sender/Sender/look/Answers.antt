use Rattle.std.proofs.Common.{ℕ, ◌<◌, ap, sym, subst, ◌∙◌}
use Rattle.flow_link.specs.declared.stage.SourceStage.{SourceStage}
use Rattle.flow_link.specs.Views as views
use Rattle.flow_link.specs.Looks.{source_finds}
use Rattle.flow_link.specs.Stage.{source_stage_of, source_looks}
use Rattle.flow_link.proofs.StagesKept.{stages_are_kept}
use Rattle.flow_wire.specs.Ends.{SourceOf}
use Rattle.flow_low_rows.proofs.sender.Sender.look.Goals as goal

pub invariant_of-self : goal.invariant_of-self
invariant_of-self c =
    let phase = c.look-phase.result in
    let now = c.args.self.now in record {
      knows = ap (λ (e : SourceOf). e.side.view.stage) c.look-phase.ensures.end
          ∙ ap (λ (y : views.SourceStage). source_finds y phase) now.knows
          ∙ sym (stages_are_kept.source now.stage phase)
          ∙ ap (λ (y : SourceStage). source_stage_of (source_looks y phase)) (sym c.stage-stage.ensures)
          ∙ ap source_stage_of (sym c.look-self.ensures);
      no_limit = ap (λ (e : SourceOf). e.side.facts.max) c.look-phase.ensures.end ∙ now.no_limit;
      propagates = ap (λ (e : SourceOf). e.side.facts.propagates) c.look-phase.ensures.end ∙ now.propagates;
      rises = subst (λ (n : ℕ). n < now.next) (sym (ap (λ (e : SourceOf). e.side.view.last) c.look-phase.ensures.end)) now.rises;
    }
