use Rattle.std.proofs.Common.{ℕ, ◌+◌, ◌-◌, ◌<◌, ◌≤◌, refl, sym, subst, arith}
use Rattle.flow_link.specs.Planned.{layout_of}
use Rattle.flow_task.specs.Absent.{AllDiffer, HasAll, IsAbsent, IsGap, IsThere, NoTwoAlike, part_count}
use Rattle.flow_task.specs.Numbers.{entry_count}
use Rattle.flow_task.specs.Parts.{entry_number, exit_number, task_number}
use Rattle.flow_task.proofs.FirstAbsent.{absent_entry, absent_exit, absent_task, are_to, each_to, entries_from, entries_low, exits_from, exits_low, gap_to, has_to, more_some, tasks_low, there_entry, there_exit, there_task}
use Rattle.flow_task.proofs.NumbersOfParts.{entries_end, exits_end, few_parts, tasks_end}
use Rattle.flow_task.proofs.numbered.Parts.first_missing.Goals as goal

pub overflow_add-turned : goal.overflow_add-turned
overflow_add-turned g c = let few = few_parts c.args.self.now.board in omega (arith, few, c.block_count.ensures, c.closed_count.ensures)

pub overflow_add-entries : goal.overflow_add-entries
overflow_add-entries g c =
    let few = few_parts c.args.self.now.board in omega (arith, few, c.block_count.ensures, c.closed_count.ensures, c.lane_count.ensures)

pub overflow_add-exits : goal.overflow_add-exits
overflow_add-exits g c =
    let few = few_parts c.args.self.now.board in omega (arith, few, c.block_count.ensures, c.closed_count.ensures, c.lane_count.ensures, c.open_count.ensures)

pub overflow_add-end : goal.overflow_add-end
overflow_add-end g c =
    let few = few_parts c.args.self.now.board in
    omega (arith, few, c.block_count.ensures, c.closed_count.ensures, c.lane_count.ensures, c.open_count.ensures, c.exit_count.ensures)

pub first_gap-requires-clause-high : goal.first_gap-requires-clause-high
first_gap-requires-clause-high g c =
    let it = c.args.self.now in
    let r = c.requires in
    each_to task_number c.deref.result.now it.tasks.items _ (tasks_end it.board) c.deref.ensures.value
    (omega (arith, c.block_count.ensures, c.closed_count.ensures, c.lane_count.ensures)) (λ m n. m < n)
    (tasks_low it.board it.tasks.items it.entries.items it.exits.items r.tasks_of r.entries_of r.exits_of)

pub returns-in-Some-clause-missing : goal.returns-in-Some-clause-missing
returns-in-Some-clause-missing g c =
    let it = c.args.self.now in
    let r = c.requires in
    λ differ. absent_task it.board it.tasks.items it.entries.items it.exits.items r.tasks_of r.entries_of r.exits_of c.in-Some.number
    (gap_to task_number c.deref.result.now it.tasks.items 0 0 _ (tasks_end it.board) c.deref.ensures.value refl
    (omega (arith, c.block_count.ensures, c.closed_count.ensures, c.lane_count.ensures)) c.in-Some.number
    (c.in-Some.ensures.missing (subst (AllDiffer task_number) (sym c.deref.ensures.value) differ.tasks_differ)))

pub returns-in-Some-clause-within : goal.returns-in-Some-clause-within
returns-in-Some-clause-within g c =
    λ differ.
    let gap = c.in-Some.ensures.missing (subst (AllDiffer task_number) (sym c.deref.ensures.value) differ.tasks_differ) in
    let low = gap.low in
    omega (arith, low, c.block_count.ensures, c.closed_count.ensures, c.lane_count.ensures)

pub returns-in-Some-clause-before : goal.returns-in-Some-clause-before
returns-in-Some-clause-before g c =
    let it = c.args.self.now in
    there_task it.board it.tasks.items it.entries.items it.exits.items c.in-Some.number
    (has_to task_number c.deref.result.now it.tasks.items 0 0 c.deref.ensures.value refl c.in-Some.number c.in-Some.ensures.before)

pub first_gap-requires-2-clause-low : goal.first_gap-requires-2-clause-low
first_gap-requires-2-clause-low g c =
    let it = c.args.self.now in
    let r = c.requires in
    each_to entry_number c.deref-2.result.now it.entries.items _ (tasks_end it.board) c.deref-2.ensures.value
    (omega (arith, c.block_count.ensures, c.closed_count.ensures, c.lane_count.ensures)) (λ m n. n ≤ m)
    (entries_from it.board it.tasks.items it.entries.items it.exits.items r.tasks_of r.entries_of r.exits_of)

pub first_gap-requires-2-clause-high : goal.first_gap-requires-2-clause-high
first_gap-requires-2-clause-high g c =
    let it = c.args.self.now in
    let r = c.requires in
    each_to entry_number c.deref-2.result.now it.entries.items _ (entries_end it.board) c.deref-2.ensures.value
    (omega (arith, c.block_count.ensures, c.closed_count.ensures, c.lane_count.ensures, c.open_count.ensures)) (λ m n. m < n)
    (entries_low it.board it.tasks.items it.entries.items it.exits.items r.tasks_of r.entries_of r.exits_of)

pub returns-in-Some-first_gap-clause-missing : goal.returns-in-Some-first_gap-clause-missing
returns-in-Some-first_gap-clause-missing g c =
    let it = c.args.self.now in
    let r = c.requires in
    let found = c.in-Some-first_gap in
    λ differ. absent_entry it.board it.tasks.items it.entries.items it.exits.items r.tasks_of r.entries_of r.exits_of found.number
    (gap_to entry_number c.deref-2.result.now it.entries.items _ (tasks_end it.board) _ (entries_end it.board) c.deref-2.ensures.value
    (omega (arith, c.block_count.ensures, c.closed_count.ensures, c.lane_count.ensures))
    (omega (arith, c.block_count.ensures, c.closed_count.ensures, c.lane_count.ensures, c.open_count.ensures)) found.number
    (found.ensures.missing (subst (AllDiffer entry_number) (sym c.deref-2.ensures.value) differ.entries_differ)))

pub returns-in-Some-first_gap-clause-within : goal.returns-in-Some-first_gap-clause-within
returns-in-Some-first_gap-clause-within g c =
    λ differ.
    let gap = c.in-Some-first_gap.ensures.missing (subst (AllDiffer entry_number) (sym c.deref-2.ensures.value) differ.entries_differ) in
    let low = gap.low in
    omega (arith, low, c.block_count.ensures, c.closed_count.ensures, c.lane_count.ensures, c.open_count.ensures)

pub returns-in-Some-first_gap-clause-before : goal.returns-in-Some-first_gap-clause-before
returns-in-Some-first_gap-clause-before g c =
    let it = c.args.self.now in
    let found = c.in-Some-first_gap in
    let tasks = c.block_count.result + c.closed_count.result + c.lane_count.result in
    there_entry it.board it.tasks.items it.entries.items it.exits.items
    (are_to task_number c.deref.result.now it.tasks.items 0 0 (tasks - 0) (tasks_end it.board) c.deref.ensures.value refl
    (omega (arith, c.block_count.ensures, c.closed_count.ensures, c.lane_count.ensures)) c.in_default.ensures.all) found.number
    (has_to entry_number c.deref-2.result.now it.entries.items _ (tasks_end it.board) c.deref-2.ensures.value
    (omega (arith, c.block_count.ensures, c.closed_count.ensures, c.lane_count.ensures)) found.number found.ensures.before)

pub first_gap-requires-3-clause-low : goal.first_gap-requires-3-clause-low
first_gap-requires-3-clause-low g c =
    let it = c.args.self.now in
    let r = c.requires in
    each_to exit_number c.deref-3.result.now it.exits.items _ (entries_end it.board) c.deref-3.ensures.value
    (omega (arith, c.block_count.ensures, c.closed_count.ensures, c.lane_count.ensures, c.open_count.ensures)) (λ m n. n ≤ m)
    (exits_from it.board it.tasks.items it.entries.items it.exits.items r.tasks_of r.entries_of r.exits_of)

pub first_gap-requires-3-clause-high : goal.first_gap-requires-3-clause-high
first_gap-requires-3-clause-high g c =
    let it = c.args.self.now in
    let r = c.requires in
    each_to exit_number c.deref-3.result.now it.exits.items _ (exits_end it.board) c.deref-3.ensures.value
    (omega (arith, c.block_count.ensures, c.closed_count.ensures, c.lane_count.ensures, c.open_count.ensures, c.exit_count.ensures)) (λ m n. m < n)
    (exits_low it.board it.tasks.items it.entries.items it.exits.items r.tasks_of r.entries_of r.exits_of)

pub returns-clause-missing : goal.returns-clause-missing
returns-clause-missing g c =
    let it = c.args.self.now in
    let r = c.requires in
    more_some (λ n. AllDiffer exit_number c.deref-3.result.now → IsGap exit_number _ _ c.deref-3.result.now n)
    (λ n. NoTwoAlike it.board it.tasks.items it.entries.items it.exits.items → IsAbsent it.board it.tasks.items it.entries.items it.exits.items n)
    c.first_gap-3.result c.first_gap-3.ensures.missing (λ n gap differ.
    absent_exit it.board it.tasks.items it.entries.items it.exits.items r.tasks_of r.entries_of r.exits_of n
    (gap_to exit_number c.deref-3.result.now it.exits.items _ (entries_end it.board) _ (exits_end it.board) c.deref-3.ensures.value
    (omega (arith, c.block_count.ensures, c.closed_count.ensures, c.lane_count.ensures, c.open_count.ensures))
    (omega (arith, c.block_count.ensures, c.closed_count.ensures, c.lane_count.ensures, c.open_count.ensures, c.exit_count.ensures)) n
    (gap (subst (AllDiffer exit_number) (sym c.deref-3.ensures.value) differ.exits_differ))))

pub returns-clause-within : goal.returns-clause-within
returns-clause-within g c =
    let it = c.args.self.now in
    more_some (λ n. AllDiffer exit_number c.deref-3.result.now → IsGap exit_number _ _ c.deref-3.result.now n)
    (λ n. NoTwoAlike it.board it.tasks.items it.entries.items it.exits.items → n < part_count it.board)
    c.first_gap-3.result c.first_gap-3.ensures.missing (λ n gap differ.
    let low = (gap (subst (AllDiffer exit_number) (sym c.deref-3.ensures.value) differ.exits_differ)).low in
    omega (arith, low, c.block_count.ensures, c.closed_count.ensures, c.lane_count.ensures, c.open_count.ensures, c.exit_count.ensures))

pub returns-clause-before : goal.returns-clause-before
returns-clause-before g c =
    let it = c.args.self.now in
    let tasks = c.block_count.result + c.closed_count.result + c.lane_count.result in
    let count = entry_count (layout_of it.board.rest.plan) it.board.opens.items in
    more_some (λ n. HasAll exit_number _ n c.deref-3.result.now)
    (λ n. (k : ℕ) → k < n → IsThere it.board it.tasks.items it.entries.items it.exits.items k)
    c.first_gap-3.result c.first_gap-3.ensures.before (λ n has.
    there_exit it.board it.tasks.items it.entries.items it.exits.items
    (are_to task_number c.deref.result.now it.tasks.items 0 0 (tasks - 0) (tasks_end it.board) c.deref.ensures.value refl
    (omega (arith, c.block_count.ensures, c.closed_count.ensures, c.lane_count.ensures)) c.in_default.ensures.all)
    (are_to entry_number c.deref-2.result.now it.entries.items tasks (tasks_end it.board) (tasks + c.open_count.result - tasks) count c.deref-2.ensures.value
    (omega (arith, c.block_count.ensures, c.closed_count.ensures, c.lane_count.ensures))
    (omega (arith, c.open_count.ensures)) c.in_default-first_gap.ensures.all) n
    (has_to exit_number c.deref-3.result.now it.exits.items _ (entries_end it.board) c.deref-3.ensures.value
    (omega (arith, c.block_count.ensures, c.closed_count.ensures, c.lane_count.ensures, c.open_count.ensures)) n has))
