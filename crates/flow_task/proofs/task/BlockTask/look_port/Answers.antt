use Rattle.std.proofs.Common.{◌≡◌, ℕ, ◌<◌, length, ap, sym, ◌∙◌, subst, arith, suc, ◌+◌}
use Rattle.flow_link.specs.Planned.{layout_of}
use Rattle.flow_block.specs.Block.{BlockState, port_at}
use Rattle.flow_core.specs.MovesFit.{in_count}
use Rattle.flow_exec.specs.Works.{works_of}
use Rattle.flow_task.specs.Turns.{LooksIn}
use Rattle.flow_task.specs.declared.board.Board.{Board}
use Rattle.flow_task.proofs.Counts.{ins_alike, ports_alike}
use Rattle.flow_task.proofs.TurnsGrow.{look_in_keeps}
use Rattle.flow_task.proofs.task.BlockTask.look_port.Goals as goal

pub look_in-requires-clause-port : goal.look_in-requires-clause-port
look_in-requires-clause-port g c =
    let s = c.args.self.now in
    let t = c.loop-place.self in
    let old = layout_of s.of.value.rest.plan in
    let new = layout_of t.of.value.rest.plan in
    let meaning = g.W.Runs.meaning in
    let alike = ports_alike new old (works_of meaning new) (works_of meaning old) t.number s.number t.node s.node t.law s.law
    (ap (λ (board : Board _). layout_of board.rest.plan) c.loop-place.invariant.of) c.loop-place.invariant.number in
    subst (λ (n : ℕ). c.args.port < n) (sym alike) c.requires.port

pub look_in-requires-clause-there : goal.look_in-requires-clause-there
look_in-requires-clause-there g c =
    let s = c.args.self.now in
    let t = c.loop-place.self in
    let old = layout_of s.of.value.rest.plan in
    let new = layout_of t.of.value.rest.plan in
    let meaning = g.W.Runs.meaning in
    let alike = ins_alike new old (works_of meaning new) (works_of meaning old) t.number s.number t.node s.node t.law s.law
    (ap (λ (board : Board _). layout_of board.rest.plan) c.loop-place.invariant.of) c.loop-place.invariant.number c.args.port c.requires.port in
    let many : c.in_count-place-end.result ≡ in_count c.args.port s.node =
    c.in_count-place-end.ensures ∙ ap (λ (b : BlockState). length (port_at c.args.port b).ends) c.block.ensures in
    omega (arith, alike, many, c.loop-place-test.true)

pub loop-place-preserved : goal.loop-place-preserved
loop-place-preserved g c =
    let more : suc c.loop-place.place ≡ c.loop-place.place + 1 = omega arith in
    let i = c.loop-place.invariant in
    let looked = c.look_in.ensures.looked in
    record {
      of = c.look_in.ensures.of ∙ i.of;
      number = c.look_in.ensures.number ∙ i.number;
      looked = subst (λ (n : ℕ). LooksIn c.args.port n c.args.self.now.node c.look_in.new.self.node) more
          (c.loop-place.self.node, (i.looked, looked));
      journal = look_in_keeps c.args.port c.loop-place.place looked.0 c.loop-place.self.node c.look_in.new.self.node looked.1 ∙ i.journal;
    }

pub returns-clause-looked : goal.returns-clause-looked
returns-clause-looked g c =
    let node = c.args.self.now.node in
    let many : c.in_count-place-end.result ≡ in_count c.args.port node =
    c.in_count-place-end.ensures ∙ ap (λ (b : BlockState). length (port_at c.args.port b).ends) c.block.ensures in
    let all : c.loop-place.place ≡ in_count c.args.port node =
    omega (arith, many, c.loop-place-test.false, c.loop-place.auto.place-end) in
    subst (λ (n : ℕ). LooksIn c.args.port n node c.loop-place.self.node) all c.loop-place.invariant.looked
