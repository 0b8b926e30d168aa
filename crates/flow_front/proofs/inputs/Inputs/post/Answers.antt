use Rattle.std.proofs.Common.{sym, ◌∙◌}
use Rattle.std.proofs.lemmas.List.{length-set}
use Rattle.std.proofs.lemmas.Result.{on_ok_weaker, on_err_weaker}
use Rattle.flow_front.specs.Inputs.{with_value}
use Rattle.flow_front.proofs.InputsChange.{at_place, changes_none, changes_one, numbered_as_before}
use Rattle.flow_front.proofs.inputs.Inputs.post.Goals as goal

pub returns-in-Some-clause-posted : goal.returns-in-Some-clause-posted
returns-in-Some-clause-posted g c =
    on_ok_weaker c.push_onto.result
    (λ same. at_place _ _ c.in-Some.place (sym c.place.ensures.place ∙ c.in-Some.is)
    (changes_one _ _ c.index_mut.result.now _ (with_value c.args.value) c.in-Some.ensures.within c.index_mut.ensures.value same))
    c.push_onto.ensures.posted

pub returns-in-Some-clause-kept : goal.returns-in-Some-clause-kept
returns-in-Some-clause-kept g c =
    on_err_weaker c.push_onto.result
    (λ same. changes_none _ _ c.index_mut.result.now _ c.in-Some.ensures.within c.index_mut.ensures.value same)
    c.push_onto.ensures.kept

pub invariant_of-self : goal.invariant_of-self
invariant_of-self g c = record {
  one_each = length-set _ _ _ ∙ c.args.self.now.one_each;
  numbered = numbered_as_before c.args.self.now.lists.items c.in-Some.place c.index_mut.result.now c.push_onto.new.list
      c.in-Some.ensures.within c.index_mut.ensures.value c.push_onto.ensures.same_ending c.args.self.now.numbered;
}
