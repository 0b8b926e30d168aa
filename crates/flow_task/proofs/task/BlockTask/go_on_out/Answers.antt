use Rattle.std.proofs.Common.{ℕ, refl, ap, ap₂, ◌∙◌, subst, below_more, arith}
use Rattle.flow_link.specs.Planned.{layout_of}
use Rattle.flow_block.specs.Node.{NodeState}
use Rattle.flow_core.specs.MovesFit.{out_count}
use Rattle.flow_exec.specs.Works.{works_of}
use Rattle.flow_task.specs.Known.{out_known, out_due}
use Rattle.flow_task.specs.Turns.{OutIsStill}
use Rattle.flow_task.specs.declared.board.Board.{Board}
use Rattle.flow_block.specs.Planned.{block_makes}
use Rattle.flow_task.proofs.Counts.{outs_alike}
use Rattle.flow_task.proofs.Misses.{out_still_then}
use Rattle.flow_task.proofs.Places.{count_is}
use Rattle.flow_task.proofs.Spends.{as_many_first, as_many_then, spends_more, spends_none, spends_so}
use Rattle.flow_task.proofs.task.BlockTask.go_on_out.Goals as goal

pub loop-place-init : goal.loop-place-init
loop-place-init g c =
    let node = c.args.self.now.node in
    record {
      of = refl;
      number = refl;
      ins = refl;
      spends = spends_none _ c.args.left.now node node refl;
      still = λ as_many first k low. absurd (omega (arith, first, low));
    }

pub move_out_once-requires-clause-there : goal.move_out_once-requires-clause-there
move_out_once-requires-clause-there g c =
    let s = c.args.self.now in
    let t = c.loop-place.self in
    let old = layout_of s.of.value.rest.plan in
    let new = layout_of t.of.value.rest.plan in
    let meaning = g.W.Runs.meaning in
    let alike = outs_alike new old (works_of meaning new) (works_of meaning old) t.number s.number t.node s.node t.law s.law
    (ap (λ (board : Board _). layout_of board.rest.plan) c.loop-place.invariant.of) c.loop-place.invariant.number in
    let many = count_is out_known (out_due old s.of.value.wires.items s.number s.node) (out_count s.node) s.outs.items s.outs_know in
    omega (arith, alike, many, s.outs.ok.0, c.len-place-end.ensures, c.loop-place-test.true)

pub returns-in_err-move_out_once-clause-spends : goal.returns-in_err-move_out_once-clause-spends
returns-in_err-move_out_once-clause-spends g c =
    let s = c.args.self.now in
    let i = c.loop-place.invariant in
    let new = c.move_out_once.new.self.node in
    let makes = (λ (board : Board _) (n : ℕ). block_makes (layout_of board.rest.plan) (works_of g.W.Runs.meaning (layout_of board.rest.plan)) n) in
    spends_more (makes s.of.value s.number) c.args.left.now c.loop-place.left c.move_out_once.new.left s.node c.loop-place.self.node new i.spends
    (spends_so c.loop-place.left c.move_out_once.new.left c.loop-place.self.node new (ap₂ makes i.of i.number) c.move_out_once.ensures.spends)

pub loop-place-preserved : goal.loop-place-preserved
loop-place-preserved g c =
    let i = c.loop-place.invariant in
    let here = c.loop-place.place in
    let old = c.args.self.now.node in
    let said = c.move_out_once.ensures in
    let s = c.args.self.now in
    let makes = (λ (board : Board _) (n : ℕ). block_makes (layout_of board.rest.plan) (works_of g.W.Runs.meaning (layout_of board.rest.plan)) n) in
    record {
      of = said.of ∙ i.of;
      number = said.number ∙ i.number;
      ins = said.ins ∙ i.ins;
      spends = spends_more (makes s.of.value s.number) c.args.left.now c.loop-place.left c.move_out_once.new.left old c.loop-place.self.node
          c.move_out_once.new.self.node i.spends
          (spends_so c.loop-place.left c.move_out_once.new.left c.loop-place.self.node c.move_out_once.new.self.node (ap₂ makes i.of i.number) said.spends);
      still = λ as_many first.
          let after = c.move_out_once.new.self.outs.items in
          below_more (λ (k : ℕ). OutIsStill k old after) here
          (λ k low. out_still_then k old c.loop-place.self.outs.items after
          (c.in_ok-move_out_once.ensures.others (as_many_then i.spends said.spends as_many))
          (i.still (as_many_first i.spends said.spends as_many) first k low))
          (subst (λ (node : NodeState). OutIsStill here node after) (i.spends.kept (as_many_first i.spends said.spends as_many))
          (c.in_ok-move_out_once.ensures.still (as_many_then i.spends said.spends as_many)));
    }

pub returns-clause-still : goal.returns-clause-still
returns-clause-still g c =
    let s = c.args.self.now in
    let many = count_is out_known (out_due (layout_of s.of.value.rest.plan) s.of.value.wires.items s.number s.node) (out_count s.node) s.outs.items
    s.outs_know in
    λ some as_many first k low.
    c.loop-place.invariant.still as_many first k (omega (arith, many, s.outs.ok.0, c.len-place-end.ensures, c.loop-place-test.false, low))
