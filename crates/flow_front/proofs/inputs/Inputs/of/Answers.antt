use Rattle.std.proofs.Common.{length, ap, sym, ◌∙◌}
use Rattle.std.proofs.lemmas.List.{length-map, length-replicate}
use Rattle.flow_link.specs.Posted.{input_of}
use Rattle.flow_front.specs.Inputs.{nothing_posted}
use Rattle.flow_front.proofs.InputsChange.{all_numbered}
use Rattle.flow_front.proofs.inputs.Inputs.of.Goals as goal

pub invariant_of-result : goal.invariant_of-result
invariant_of-result g c = record {
  one_each = sym (length-map c.in-Ok.lists.items input_of) ∙ ap length c.in-Ok.ensures ∙ length-replicate _ nothing_posted ∙ c.input_count.ensures;
  numbered = all_numbered _ _ c.in-Ok.ensures;
}
