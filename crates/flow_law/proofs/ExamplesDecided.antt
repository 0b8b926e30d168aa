-- The examples pass the tests that they are to pass, and no others.
use Rattle.std.proofs.Common.{◌≡◌, ℕ, zero, suc, true, false, not, count_by, refl, arith}
use Rattle.flow_link.specs.Trace.{Run}
use Rattle.flow_law.specs.Examples.{Work}
use Rattle.flow_law.specs.Tests.{all_pass, law_tests, quiet_tests}
use Rattle.flow_law.specs.LawfulExamples.{IsLawfulAndQuiet, GoodRunsAreLawful, two_records, parse_three, upto_flattens, unrouted_head, link_limit, batch_remainder, greedy_join_leaves, reserving_join_leaves, write_once_takes_one, broadcast_beside_a_join, batched_join_groups, fault_in_the_middle, bounded_buffer_misses, fault_after_work, fault_before_work, more_than_one_result, kept_for_the_caller, room_for_two, refused_and_passed_on, rest_made_before_fault, rest_kept_at_fault}
use Rattle.flow_law.specs.RefusedExamples.{WrongRunsAreRefused}
use Rattle.flow_law.specs.UnfinishedExamples.{nothing_moved, message_on_the_way, work_not_done, done_not_marked, end_not_handed_on, value_not_given, copy_not_given, rest_not_made, IsUnfinished, UnfinishedRunsAreNotQuiet}
use Rattle.flow_lawful.specs.Quiet.{Quiet}
use Rattle.flow_law.proofs.LawfulByTests.{lawful_by_tests, quiet_by_tests}

good : (run : Run Work) → all_pass (law_tests run) ≡ true → all_pass (quiet_tests run) ≡ true → IsLawfulAndQuiet run
good run laws rest = record { lawful = lawful_by_tests run laws; quiet = quiet_by_tests run rest }

pub good_runs : GoodRunsAreLawful
good_runs = record {
  two_records_is = good two_records refl refl;
  parse_three_is = good parse_three refl refl;
  upto_flattens_is = good upto_flattens refl refl;
  unrouted_head_is = good unrouted_head refl refl;
  link_limit_is = good link_limit refl refl;
  batch_remainder_is = good batch_remainder refl refl;
  greedy_join_leaves_is = good greedy_join_leaves refl refl;
  reserving_join_leaves_is = good reserving_join_leaves refl refl;
  write_once_takes_one_is = good write_once_takes_one refl refl;
  broadcast_beside_a_join_is = good broadcast_beside_a_join refl refl;
  batched_join_groups_is = good batched_join_groups refl refl;
  fault_in_the_middle_is = good fault_in_the_middle refl refl;
  bounded_buffer_misses_is = good bounded_buffer_misses refl refl;
  fault_after_work_is = good fault_after_work refl refl;
  fault_before_work_is = good fault_before_work refl refl;
  more_than_one_result_is = good more_than_one_result refl refl;
  kept_for_the_caller_is = good kept_for_the_caller refl refl;
  room_for_two_is = good room_for_two refl refl;
  refused_and_passed_on_is = good refused_and_passed_on refl refl;
  rest_made_before_fault_is = good rest_made_before_fault refl refl;
  rest_kept_at_fault_is = good rest_kept_at_fault refl refl;
}

pub wrong_no_more : false ≡ true → ⊥
wrong_no_more e = cc

pub none_is_some : (n : ℕ) → zero ≡ suc n → ⊥
none_is_some n e = absurd (omega arith)

pub wrong_runs : WrongRunsAreRefused
wrong_runs = record {
  head_twice = record { broken = λ law. wrong_no_more law.each_block; others_hold = refl };
  finish_order = record { broken = λ law. wrong_no_more law.each_block; others_hold = refl };
  torn = record { broken = λ law. wrong_no_more law.level; others_hold = refl };
  after_complete = record { broken = λ law. wrong_no_more law.once; others_hold = refl };
  later_first = record { broken = λ law. wrong_no_more law.each_block; others_hold = refl };
  skipped = record { broken = λ law. wrong_no_more law.each_block; others_hold = refl };
  all_skipped = record { broken = λ law. wrong_no_more law.each_block; others_hold = refl };
  dropped = record { broken = λ law. wrong_no_more law.each_block; others_hold = refl };
  lost = record { broken = λ law. wrong_no_more law.between_blocks; others_hold = refl };
  short_group = record { broken = λ law. wrong_no_more law.each_block; others_hold = refl };
  cut_completes = record { broken = λ law. wrong_no_more law.causes; others_hold = refl };
  open_completes = record { broken = λ law. wrong_no_more law.causes; others_hold = refl };
  to_nobody = record { broken = λ law. wrong_no_more law.own_marks; others_hold = refl };
  other_number = record { broken = λ law. wrong_no_more law.causes; others_hold = refl };
  too_many_held = record { broken = λ law. wrong_no_more law.within_capacity; others_hold = refl };
  not_admitted = record { broken = λ law. wrong_no_more law.admitted; others_hold = refl };
  too_many_given = record { broken = λ law. wrong_no_more law.within_max; others_hold = refl };
  not_posted = record { broken = λ law. wrong_no_more law.from_inputs; others_hold = refl };
  after_the_end = record { broken = λ law. wrong_no_more law.last; others_hold = refl };
  done_too_early = record { broken = λ law. wrong_no_more law.done; others_hold = refl };
  no_reason = record { broken = λ law. wrong_no_more law.refusals; others_hold = refl };
  action_gives = record { broken = λ law. wrong_no_more law.each_block; others_hold = refl };
  mixed_up = record { broken = λ law. wrong_no_more law.each_block; others_hold = refl };
  left_out = record { broken = λ law. wrong_no_more law.each_block; others_hold = refl };
  other_row = record { broken = λ law. wrong_no_more law.each_block; others_hold = refl };
  no_blocks = record { broken = λ law. none_is_some 0 law.blocks; others_hold = refl };
  no_inputs = record { broken = λ law. none_is_some 0 law.inputs; others_hold = refl };
  no_port = record { broken = λ law. wrong_no_more law.ports; others_hold = refl };
}

unfinished : (run : Run Work) → all_pass (law_tests run) ≡ true → (Quiet run → ⊥)
    → count_by (λ test. not test) (quiet_tests run) ≡ 1 → IsUnfinished run
unfinished run laws rest one = record { lawful = lawful_by_tests run laws; not_quiet = rest; others_hold = one }

pub unfinished_runs : UnfinishedRunsAreNotQuiet
unfinished_runs = record {
  not_moved = unfinished nothing_moved refl (λ quiet. wrong_no_more quiet.heads) refl;
  on_the_way = unfinished message_on_the_way refl (λ quiet. wrong_no_more quiet.home) refl;
  not_worked = unfinished work_not_done refl (λ quiet. wrong_no_more quiet.at_rest) refl;
  not_marked = unfinished done_not_marked refl (λ quiet. wrong_no_more quiet.done) refl;
  not_handed_on = unfinished end_not_handed_on refl (λ quiet. wrong_no_more quiet.ends_handed_on) refl;
  not_given = unfinished value_not_given refl (λ quiet. wrong_no_more quiet.heads) refl;
  not_copied = unfinished copy_not_given refl (λ quiet. wrong_no_more quiet.served) refl;
  not_made = unfinished rest_not_made refl (λ quiet. wrong_no_more quiet.at_rest) refl;
}
