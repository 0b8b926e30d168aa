use Rattle.std.proofs.Common.{rules}
use Rattle.std.proofs.lemmas.List.Sorted.{IsNonDecreasingBy-from_sort_by_key}
use Rattle.flow_task.specs.Parts.{entry_number, exit_number, task_number}
use Rattle.flow_task.proofs.Reordered.{entries_stay, exits_stay, tasks_stay}
use Rattle.flow_task.proofs.numbered.Parts.sort.Goals as goal

pub returns-clause-tasks_rise : goal.returns-clause-tasks_rise
returns-clause-tasks_rise g c =
    IsNonDecreasingBy-from_sort_by_key task_number _ c.sort_unstable_by_key.ensures.sorted (λ a r q k. search rules)

pub returns-clause-entries_rise : goal.returns-clause-entries_rise
returns-clause-entries_rise g c =
    IsNonDecreasingBy-from_sort_by_key entry_number _ c.sort_unstable_by_key-2.ensures.sorted (λ a r q k. search rules)

pub returns-clause-exits_rise : goal.returns-clause-exits_rise
returns-clause-exits_rise g c =
    IsNonDecreasingBy-from_sort_by_key exit_number _ c.sort_unstable_by_key-3.ensures.sorted (λ a r q k. search rules)

pub returns-clause-tasks_of : goal.returns-clause-tasks_of
returns-clause-tasks_of g c = tasks_stay _ _ c.sort_unstable_by_key.ensures.permutation

pub returns-clause-entries_of : goal.returns-clause-entries_of
returns-clause-entries_of g c = entries_stay _ _ c.sort_unstable_by_key-2.ensures.permutation

pub returns-clause-exits_of : goal.returns-clause-exits_of
returns-clause-exits_of g c = exits_stay _ _ c.sort_unstable_by_key-3.ensures.permutation
