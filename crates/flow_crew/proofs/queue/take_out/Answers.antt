use Rattle.std.proofs.Common.{◌∙◌, ap, length, subst, sym}
use native.Mathlib.Omega.{arith}
use Rattle.std.proofs.lemmas.List.{nil_from_length}
use Rattle.crossbeam_queue.specs.Passes.{view}
use Rattle.flow_crew.specs.Numbers.{weigh}
use Rattle.flow_crew.specs.Rounds.{AllIn}
use Rattle.flow_crew.proofs.Journals.{all_pushed}
use Rattle.flow_crew.proofs.Keeps.{takes, tells}
use Rattle.flow_crew.proofs.Tasks.{numbers-length, held_more}
use Rattle.flow_crew.proofs.queue.take_out.Goals as goal

pub pop_as-requires-clause-rule : goal.pop_as-requires-clause-rule
pop_as-requires-clause-rule g c =
    let pass = c.loop.pass in
    let whole = c.loop.invariant.part in
    (takes g.J.Round.all pass.id (view pass) (omega arith), tells g.J.Round.all pass.id (view pass))

pub push_reserved-requires : goal.push_reserved-requires
push_reserved-requires g c =
    let fewer = c.in-Some-pop_as.ensures.rule.1 in
    let holds = ap (λ ns. length ns) c.loop.invariant.holds in
    let len = c.loop.tasks.ok.0 in
    let room = c.loop.invariant.room in
    let enough = c.requires.room.1 in
    omega (arith, numbers-length c.loop.tasks.items)

pub loop-preserved : goal.loop-preserved
loop-preserved g c =
    let told = c.in-Some-pop_as.ensures.rule.0 in
    let old = c.loop.tasks.items in
    let task = c.into_task.result in
    let board = g.J.Round.board in
    let came = g.J.Round.came in
    let items = c.push_reserved.ensures.items in record {
      queue = (c.in-Some-pop_as.ensures.queue.0 ∙ c.loop.invariant.queue.0, c.in-Some-pop_as.ensures.queue.2 ∙ c.loop.invariant.queue.1);
      part = ap (λ v. v.parts) told ∙ c.loop.invariant.part;
      holds = ap (λ v. v.holds) told ∙ held_more old c.push_reserved.new.self.items task (view c.loop.pass).holds c.in-Some-pop_as.item
          c.loop.invariant.holds c.into_task.ensures.number items;
      in_round = subst (AllIn board came) (sym items) (all_pushed board came old task c.loop.invariant.in_round c.into_task.ensures.in_round);
      room = c.push_reserved.ensures.capacity ∙ c.loop.invariant.room;
    }

pub returns-in-None-pop_as-clause-all : goal.returns-in-None-pop_as-clause-all
returns-in-None-pop_as-clause-all g c h =
    let told = c.in-None-pop_as.ensures.rule.1 in
    let sum = told.2 c.loop.invariant.part h in
    let none = ap (weigh h) (nil_from_length told.0 told.1) in
    let held = ap (weigh h) c.loop.invariant.holds in
    omega (arith, sum, none, held)
