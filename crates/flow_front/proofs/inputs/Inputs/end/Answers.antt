use Rattle.std.proofs.Common.{rules, refl, sym, ◌∙◌}
use Rattle.std.proofs.lemmas.List.{length-set}
use Rattle.flow_front.specs.Inputs.{with_ending}
use Rattle.flow_front.proofs.InputsChange.{at_place, changes_one, numbered_after}
use Rattle.flow_front.proofs.inputs.Inputs.end.Goals as goal

pub returns-else-not-is_numbered-clause-ended : goal.returns-else-not-is_numbered-clause-ended
returns-else-not-is_numbered-clause-ended g c =
    at_place _ _ c.in-Some.place (sym c.place.ensures.place ∙ c.in-Some.is)
    (changes_one _ _ c.index_mut.result.now _ (with_ending c.args.ending) c.in-Some.ensures.within c.index_mut.ensures.value refl)

pub invariant_of-self : goal.invariant_of-self
invariant_of-self g c = record {
  one_each = length-set _ _ _ ∙ c.args.self.now.one_each;
  numbered = numbered_after c.args.self.now.lists.items c.in-Some.place
      (record { values = c.index_mut.result.now.values; ending = c.args.ending }) c.args.self.now.numbered (search rules);
}
