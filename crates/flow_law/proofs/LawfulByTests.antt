-- A run whose tests all pass is lawful, or quiet.
use Rattle.std.proofs.Common.{◌≡◌, ℕ, zero, suc, ◌==◌, Bool, true, ◌&&◌, List, [], ◌∷◌, length, get_or, refl, eqb-true}
use Rattle.std.proofs.lemmas.Bool.{and_parts}
use Rattle.flow_link.specs.Trace.{Run, block_numbers}
use Rattle.flow_link.specs.Lists.{every}
use Rattle.flow_lawful.specs.Shape.{Shape, input_count, tells_each_port}
use Rattle.flow_law.specs.Tests.{all_pass, is_in_shape, law_tests, quiet_tests}
use Rattle.flow_lawful.specs.Lawful.{Lawful}
use Rattle.flow_lawful.specs.Quiet.{Quiet}

-- each test passes
pub test_passes : (tests : List Bool) (k : ℕ) → all_pass tests ≡ true → get_or tests k true ≡ true
test_passes [] k e = refl
test_passes (test ∷ tests) zero e = (and_parts test (all_pass tests) e).0
test_passes (test ∷ tests) (suc k) e = test_passes tests k (and_parts test (all_pass tests) e).1

module _ {W : Type 0} (run : Run W) where
  in_shape : is_in_shape run ≡ true → Shape run
  in_shape e =
      let blocks = length run.trace.blocks == length run.layout.blocks in
      let inputs = length run.trace.inputs == input_count run in
      let ports = every (tells_each_port run) (block_numbers run) in
      let all = and_parts (blocks && inputs) ports e in
      let counts = and_parts blocks inputs all.0 in
      record {
        blocks = eqb-true (length run.trace.blocks) (length run.layout.blocks) counts.0;
        inputs = eqb-true (length run.trace.inputs) (input_count run) counts.1;
        ports = all.1;
      }

  pub lawful_by_tests : all_pass (law_tests run) ≡ true → Lawful run
  lawful_by_tests e =
      let passes : (k : ℕ) → get_or (law_tests run) k true ≡ true = λ k. test_passes (law_tests run) k e in
      record {
        shape = in_shape (passes 15);
        link_law = record { between_blocks = passes 0; admitted = passes 1; within_max = passes 2; from_inputs = passes 3 };
        one_taker = record { own_marks = passes 4 };
        making = record { each_block = passes 5 };
        counts = record { within_capacity = passes 6; level = passes 7 };
        copies = record { each_block = passes 8 };
        endings = record { last = passes 9; once = passes 10; done = passes 11; causes = passes 12; refusals = passes 13 };
        link_order = record { each_block = passes 14 };
      }

  pub quiet_by_tests : all_pass (quiet_tests run) ≡ true → Quiet run
  quiet_by_tests e =
      let passes : (k : ℕ) → get_or (quiet_tests run) k true ≡ true = λ k. test_passes (quiet_tests run) k e in
      record { home = passes 0; at_rest = passes 1; done = passes 2; ends_handed_on = passes 3; heads = passes 4; served = passes 5 }
