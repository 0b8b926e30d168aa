use Rattle.std.proofs.Common.{rules, refl, sym, ◌∙◌}
use Rattle.std.proofs.lemmas.Slice.Eq.{slice_eq-Decides}
use Rattle.flow_value.proofs.steps.StepsWork.copy.Goals as goal

pub returns : goal.returns
returns c =
    (slice_eq-Decides (λ x y. search rules) c.args.self.now c.in_ok-from_slice.field-0.items _ refl).1
    (sym (c.in_ok-from_slice.ensures.items ∙ c.as_slice.ensures))
