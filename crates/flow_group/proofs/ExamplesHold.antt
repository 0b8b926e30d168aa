-- Tuples and groups of a few messages are as the laws have them, and wrong ones are not.
use Rattle.std.proofs.Common.{◌≡◌, true, false, [], ◌∷◌, refl, arith}
use Rattle.flow_group.specs.Examples.{GroupExamples, by_port, came, int, rows}
use Rattle.flow_group.proofs.GroupsCut.{groups_tell}

pub group_examples : GroupExamples
group_examples = record {
  tuple = refl;
  after_tuple = refl;
  no_more = refl;
  not_complete = refl;
  complete = refl;
  all_three = refl;
  one_each = refl;
  two_of_one = refl;
  left_then = refl;
  too_few = refl;
  the_rest = refl;
  nothing_left = refl;
  exchanged = λ law. let wrong = law.in_order 0 (omega arith) in absurd (cc);
  ahead = λ law. let wrong = law.in_order 0 (omega arith) in absurd (cc);
  lost = λ law. let wrong = law.in_order 0 (omega arith) in absurd (cc);
  wrong_cut = λ law.
      let wrong : false ≡ true =
      (groups_tell.each 2 2 false came (rows (int 1 ∷ int 2 ∷ []) [] ∷ []) (1 ∷ []) (by_port ([] ∷ (int 9 ∷ []) ∷ [])) law).are_cut in
      absurd (cc);
  short = λ law. let wrong : false ≡ true = law.whole in absurd (cc);
  rest_stays = λ law. let wrong : false ≡ true = law.whole in absurd (cc);
}
