use Rattle.std.proofs.Common.{rules, ◌≡◌, List, length, map, refl, ap, ◌∙◌}
use Rattle.flow_link.specs.Planned.{layout_of}
use Rattle.flow_block.specs.Node.{NodeState}
use Rattle.flow_core.specs.InOrder.{all_looked}
use Rattle.flow_exec.specs.Works.{works_of}
use Rattle.flow_exit.specs.Exit.{ExitState, caller_of}
use Rattle.flow_net.specs.Asked.{none_wait}
use Rattle.flow_moves.specs.Apart.{apart_in}
use Rattle.flow_task.proofs.Scatters.{moved}
use Rattle.flow_board.proofs.gathering.put_together.Goals as goal

pub close-requires : goal.close-requires
close-requires g c κs within = (within, c.requires.1.1)

pub join-requires-clause-in_order : goal.join-requires-clause-in_order
join-requires-clause-in_order g c =
    search rules

pub join-requires-clause-unasked : goal.join-requires-clause-unasked
join-requires-clause-unasked g c =
    ap (λ (exits : List ExitState). none_wait (map caller_of exits)) c.close.ensures.exits ∙ c.requires.1.0

pub returns-clause-same_layout : goal.returns-clause-same_layout
returns-clause-same_layout g c = c.join.ensures.same_layout ∙ ap layout_of c.close.ensures.plan

pub returns-clause-journals : goal.returns-clause-journals
returns-clause-journals g c = c.join.ensures.journals ∙ ap (map (λ (node : NodeState). node.journal)) c.close.ensures.nodes

pub returns-clause-looked : goal.returns-clause-looked
returns-clause-looked g c =
    let closed = c.close.result in
    let means = g.W.Runs.meaning in
    let layout = layout_of closed.plan in
    let lines = closed.lines.items in (
      lines,
      c.join.ensures.looked
          ∙ moved
          (λ plan nodes inputs exits. all_looked layout (works_of means layout) (length layout.links) (apart_in closed)
          ≡ all_looked (layout_of plan) (works_of means (layout_of plan)) (length (layout_of plan).links)
          (record { nodes = nodes; inputs = inputs; exits = exits; lines = lines }))
          closed.plan c.args.board.rest.plan closed.nodes.items g.net.nodes closed.inputs.items g.net.inputs closed.exits.items g.net.exits
          c.close.ensures.plan c.close.ensures.nodes c.close.ensures.inputs c.close.ensures.exits refl,
    )
