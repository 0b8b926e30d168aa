use Rattle.std.proofs.Common.{◌∷◌, ◌∙◌, ap, sym, subst, reverse, drop}
use native.Mathlib.Omega.{arith}
use Rattle.crossbeam_queue.specs.Passes.{view, ruled_capacity}
use Rattle.flow_board.specs.Parts.{task_number}
use Rattle.flow_crew.specs.Numbers.{numbers}
use Rattle.flow_crew.specs.Rounds.{AllIn}
use Rattle.flow_crew.proofs.Journals.{all_before, last_in}
use Rattle.flow_crew.proofs.Keeps.{puts, learns_room}
use Rattle.flow_crew.proofs.Tasks.{last_first, never_full}
use Rattle.flow_crew.proofs.queue.put_in.Goals as goal

pub new-requires : goal.new-requires
new-requires g c =
    let board = g.J.Round.board in
    let came = g.J.Round.came in record {
      in_round = last_in board came c.pop.new.self.items c.in-Some.task
          (subst (AllIn board came) c.in-Some.ensures.items c.loop-task.invariant.in_round);
    }

pub push_as-requires-clause-rule : goal.push_as-requires-clause-rule
push_as-requires-clause-rule g c =
    let pass = c.loop-task.pass in
    let new = c.pop.new.self.items in
    let first = c.loop-task.invariant.holds ∙ (last_first c.loop-task.tasks.items new c.in-Some.task c.in-Some.ensures.items
    ∙ ap (λ n. n ∷ reverse (numbers new)) (sym c.new.ensures.number)) in
    let whole = c.loop-task.invariant.part in (
      puts g.J.Round.all (ruled_capacity c.args.queue.now) pass.id (view pass) c.new.result (reverse (numbers new)) (omega arith) first,
      learns_room g.J.Round.all pass.id (view pass),
    )

pub loop-task-preserved : goal.loop-task-preserved
loop-task-preserved g c =
    let told = c.in-Ok.ensures.rule in
    let old = c.loop-task.tasks.items in
    let new = c.pop.new.self.items in
    let board = g.J.Round.board in
    let came = g.J.Round.came in
    let first = c.loop-task.invariant.holds ∙ last_first old new c.in-Some.task c.in-Some.ensures.items in record {
      queue = (c.in-Ok.ensures.queue.0 ∙ c.loop-task.invariant.queue.0, c.in-Ok.ensures.queue.2 ∙ c.loop-task.invariant.queue.1);
      part = ap (λ v. v.parts) told ∙ c.loop-task.invariant.part;
      holds = ap (λ v. v.holds) told ∙ ap (λ l. drop 1 l) first;
      in_round = all_before board came new c.in-Some.task (subst (AllIn board came) c.in-Some.ensures.items c.loop-task.invariant.in_round);
      room = c.pop.ensures.capacity ∙ c.loop-task.invariant.room;
    }

pub unreachable-requires : goal.unreachable-requires
unreachable-requires g c =
    let new = c.pop.new.self.items in
    let first = c.loop-task.invariant.holds ∙ last_first c.loop-task.tasks.items new c.in-Some.task c.in-Some.ensures.items in
    never_full g.J.Round.all (ruled_capacity c.args.queue.now) (view c.loop-task.pass) (task_number c.in-Some.task) (reverse (numbers new)) first
    c.requires.queue.1 c.in-Err.ensures.rule.2
