use Rattle.std.proofs.Common.{◌≡◌, ℕ, ◌<◌, get_or, refl, sym, ap, ◌∙◌, subst, arith}
use Rattle.flow_link.specs.LinkOk.{LinkOk}
use Rattle.flow_link.specs.Plan.{link_in}
use Rattle.flow_link.specs.Planned.{layout_of}
use Rattle.flow_wire.specs.Ends.{Start}
use Rattle.flow_exec.specs.Works.{works_of}
use Rattle.flow_task.specs.Dealt.{exits_dealt, inputs_dealt, ins_dealt, outs_dealt}
use Rattle.flow_task.specs.Known.{source_due, target_due}
use Rattle.flow_task.specs.Orders.{AreInOrder}
use Rattle.flow_task.specs.Wired.{idle, starts_of}
use Rattle.flow_task.proofs.EndsByPlace.{all_exits, all_inputs, all_ins, all_outs}
use Rattle.flow_task.proofs.Orders.{in_order}
use Rattle.flow_task.proofs.Scatters.{moved, source_home, starts_same}
use Rattle.flow_task.proofs.board.Board.close.Goals as goal

pub close_all-requires : goal.close_all-requires
close_all-requires g c κs within =
    let board = c.args.self in
    let layout = layout_of board.rest.plan in
    let wires = board.wires.items in
    let meaning = works_of g.W.Runs.meaning layout in
    let order = c.requires.1.1.1.1.0 in
    let many = board.wired in
    let lines = board.lines in
    let out = c.requires.1.1.1.1.1.0 ∙ sym (all_outs layout wires g.net meaning order.nodes_law)
    ∙ ap (λ (n : ℕ). outs_dealt layout (source_due layout wires g.net) n) (sym many) in
    let into = c.requires.1.1.1.1.1.1.0 ∙ sym (all_ins layout wires g.net meaning order.nodes_law)
    ∙ ap (λ (n : ℕ). ins_dealt layout (target_due layout wires g.net) n) (sym many) in
    let posted = c.requires.1.1.1.1.1.1.1.0 ∙ sym (all_inputs layout wires g.net board.rest.plan.laid_out)
    ∙ ap (λ (n : ℕ). inputs_dealt layout (source_due layout wires g.net) n) (sym many) in
    let received = c.requires.1.1.1.1.1.1.1.1 ∙ sym (all_exits layout wires g.net)
    ∙ ap (λ (n : ℕ). exits_dealt layout (target_due layout wires g.net) n) (sym many) in (
      within,
      (
        refl,
        (
          many,
          (
            omega (arith, many, lines),
            (
              λ l small. source_home layout g.net l (link_in layout.links l).source,
              (out, (posted, (into, received))),
            ),
          ),
        ),
      ),
    )

pub returns-clause-in_order : goal.returns-clause-in_order
returns-clause-in_order g c =
    let board = c.args.self in
    let plan = board.rest.plan in
    let layout = layout_of plan in
    let means = g.W.Runs.meaning in
    let nodes = c.args.blocks.nodes.items in
    let inputs = c.args.inputs.inputs.items in
    let exits = c.args.exits.exits.items in
    let lines = c.close_all.new.lines.items in
    let n = c.requires.1.0 in
    let i = c.requires.1.1.0 in
    let e = c.requires.1.1.1.0 in
    let parts =
    moved (λ p ns is es. AreInOrder (layout_of p) (works_of means (layout_of p)) ns is es) plan plan g.net.nodes nodes g.net.inputs inputs
    g.net.exits exits refl n i e c.requires.1.1.1.1.0 in
    let count = c.close_all.ensures.count ∙ board.lines in
    let same = λ (l : ℕ).
    moved (λ p ns is es. starts_of layout g.net l ≡ starts_of (layout_of p) (record { nodes = ns; inputs = is; exits = es; lines = lines }) l)
    plan plan g.net.nodes nodes g.net.inputs inputs g.net.exits exits refl n i e
    (starts_same layout g.net.nodes g.net.inputs g.net.exits g.net.lines lines l) in
    in_order layout (works_of means layout) (record { nodes = nodes; inputs = inputs; exits = exits; lines = lines }) plan.laid_out parts count
    (λ l small.
    subst (λ (start : Start). LinkOk start.facts (get_or lines l idle).phase (get_or lines l idle).slot start.source start.target)
    (same l) (c.close_all.ensures.closed l (subst (λ (k : ℕ). l < k) (sym board.wired) small)))

pub returns-clause-nodes : goal.returns-clause-nodes
returns-clause-nodes g c = sym c.requires.1.0

pub returns-clause-inputs : goal.returns-clause-inputs
returns-clause-inputs g c = sym c.requires.1.1.0

pub returns-clause-exits : goal.returns-clause-exits
returns-clause-exits g c = sym c.requires.1.1.1.0
