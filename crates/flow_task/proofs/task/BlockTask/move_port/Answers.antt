use Rattle.std.proofs.Common.{◌≡◌, ℕ, ◌<◌, length, refl, ap, ap₂, sym, ◌∙◌, subst, below_more, arith}
use Rattle.flow_link.specs.Planned.{layout_of}
use Rattle.flow_block.specs.Block.{BlockState, port_at}
use Rattle.flow_block.specs.Node.{NodeState}
use Rattle.flow_core.specs.MovesFit.{in_count}
use Rattle.flow_exec.specs.Works.{works_of}
use Rattle.flow_task.specs.Turns.{InIsStill}
use Rattle.flow_task.specs.declared.board.Board.{Board}
use Rattle.flow_block.specs.Planned.{block_makes}
use Rattle.flow_task.proofs.Counts.{ins_alike, ports_alike}
use Rattle.flow_task.proofs.Misses.{in_still_then}
use Rattle.flow_task.proofs.Spends.{as_many_first, as_many_then, spends_more, spends_none, spends_so}
use Rattle.flow_task.proofs.task.BlockTask.move_port.Goals as goal

pub loop-place-init : goal.loop-place-init
loop-place-init g c =
    let node = c.args.self.now.node in
    record {
      of = refl;
      number = refl;
      spends = spends_none _ c.args.left.now node node refl;
      still = λ as_many first k low. absurd (omega (arith, first, low));
      others = λ as_many p k was. was;
    }

pub move_in_once-requires-clause-port : goal.move_in_once-requires-clause-port
move_in_once-requires-clause-port g c =
    let s = c.args.self.now in
    let t = c.loop-place.self in
    let old = layout_of s.of.value.rest.plan in
    let new = layout_of t.of.value.rest.plan in
    let meaning = g.W.Runs.meaning in
    let alike = ports_alike new old (works_of meaning new) (works_of meaning old) t.number s.number t.node s.node t.law s.law
    (ap (λ (board : Board _). layout_of board.rest.plan) c.loop-place.invariant.of) c.loop-place.invariant.number in
    subst (λ (n : ℕ). c.args.port < n) (sym alike) c.requires.port

pub move_in_once-requires-clause-there : goal.move_in_once-requires-clause-there
move_in_once-requires-clause-there g c =
    let s = c.args.self.now in
    let t = c.loop-place.self in
    let old = layout_of s.of.value.rest.plan in
    let new = layout_of t.of.value.rest.plan in
    let meaning = g.W.Runs.meaning in
    let alike = ins_alike new old (works_of meaning new) (works_of meaning old) t.number s.number t.node s.node t.law s.law
    (ap (λ (board : Board _). layout_of board.rest.plan) c.loop-place.invariant.of) c.loop-place.invariant.number c.args.port c.requires.port in
    let many : c.in_count-place-end.result ≡ in_count c.args.port s.node =
    c.in_count-place-end.ensures ∙ ap (λ (b : BlockState). length (port_at c.args.port b).ends) c.block.ensures in
    omega (arith, alike, many, c.loop-place-test.true)

pub returns-in_err-move_in_once-clause-spends : goal.returns-in_err-move_in_once-clause-spends
returns-in_err-move_in_once-clause-spends g c =
    let s = c.args.self.now in
    let i = c.loop-place.invariant in
    let new = c.move_in_once.new.self.node in
    let makes = (λ (board : Board _) (n : ℕ). block_makes (layout_of board.rest.plan) (works_of g.W.Runs.meaning (layout_of board.rest.plan)) n) in
    spends_more (makes s.of.value s.number) c.args.left.now c.loop-place.left c.move_in_once.new.left s.node c.loop-place.self.node new i.spends
    (spends_so c.loop-place.left c.move_in_once.new.left c.loop-place.self.node new (ap₂ makes i.of i.number) c.move_in_once.ensures.spends)

pub loop-place-preserved : goal.loop-place-preserved
loop-place-preserved g c =
    let i = c.loop-place.invariant in
    let here = c.loop-place.place in
    let old = c.args.self.now.node in
    let said = c.move_in_once.ensures in
    let s = c.args.self.now in
    let makes = (λ (board : Board _) (n : ℕ). block_makes (layout_of board.rest.plan) (works_of g.W.Runs.meaning (layout_of board.rest.plan)) n) in
    record {
      of = said.of ∙ i.of;
      number = said.number ∙ i.number;
      spends = spends_more (makes s.of.value s.number) c.args.left.now c.loop-place.left c.move_in_once.new.left old c.loop-place.self.node
          c.move_in_once.new.self.node i.spends
          (spends_so c.loop-place.left c.move_in_once.new.left c.loop-place.self.node c.move_in_once.new.self.node (ap₂ makes i.of i.number) said.spends);
      still = λ as_many first.
          let after = c.move_in_once.new.self.ins.items in
          below_more (λ (k : ℕ). InIsStill c.args.port k old after) here
          (λ k low. in_still_then c.args.port k old c.loop-place.self.ins.items after
          (c.in_ok-move_in_once.ensures.others (as_many_then i.spends said.spends as_many))
          (i.still (as_many_first i.spends said.spends as_many) first k low))
          (subst (λ (node : NodeState). InIsStill c.args.port here node after) (i.spends.kept (as_many_first i.spends said.spends as_many))
          (c.in_ok-move_in_once.ensures.still (as_many_then i.spends said.spends as_many)));
      others = λ as_many p k was.
          c.in_ok-move_in_once.ensures.others (as_many_then i.spends said.spends as_many) p k
          (i.others (as_many_first i.spends said.spends as_many) p k was);
    }

pub returns-clause-still : goal.returns-clause-still
returns-clause-still g c =
    let s = c.args.self.now in
    let many : c.in_count-place-end.result ≡ in_count c.args.port s.node =
    c.in_count-place-end.ensures ∙ ap (λ (b : BlockState). length (port_at c.args.port b).ends) c.block.ensures in
    λ all as_many first k low. c.loop-place.invariant.still as_many first k (omega (arith, many, c.loop-place-test.false, low))
