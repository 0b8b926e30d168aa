use Rattle.std.proofs.Common.{◌≡◌, ℕ, ◌<◌, false, List, length, map, get_or, take, refl, sym, ap, ◌∙◌, subst}
use Rattle.std.proofs.Math.Logic.{∥∥₁_elim}
use Rattle.std.proofs.Math.Nat.{ℕ_set}
use Rattle.std.specs.declared.snapshot.Snapshot.{Snapshot}
use Rattle.flow_link.specs.declared.plan.Plan.{Plan}
use Rattle.flow_link.specs.Layout.{Layout}
use Rattle.flow_link.specs.LinkOk.{LinkOk}
use Rattle.flow_link.specs.Planned.{layout_of}
use Rattle.flow_wire.specs.Ends.{Start, is_crossing}
use Rattle.flow_block.specs.Node.{NodeState}
use Rattle.flow_core.specs.InOrder.{NetInOrder, all_looked, journals_of}
use Rattle.flow_core.specs.State.{NetState, line_at}
use Rattle.flow_exec.specs.Works.{works_of}
use Rattle.flow_exit.specs.Exit.{ExitState, caller_of}
use Rattle.flow_moves.specs.Apart.{apart_in, apart_layout}
use Rattle.flow_moves.specs.declared.apart.NetParts.{NetParts}
use Rattle.flow_net.specs.Asked.{none_wait}
use Rattle.flow_net.specs.Net.{layout_in, parts_of}
use Rattle.flow_task.specs.Frames.{IsRoomFor}
use Rattle.flow_task.specs.Orders.{AreInOrder, HasLookedAround}
use Rattle.flow_task.specs.Begun.{begun_in}
use Rattle.flow_board.specs.Gathers.{KnowsTaken}
use Rattle.flow_task.specs.Parts.{board_layout, marks_in}
use Rattle.flow_board.proofs.TakenAtHome.{knows_taken}
use Rattle.flow_task.specs.Wired.{AreWired, idle, starts_of}
use Rattle.flow_task.proofs.Orders.{in_order, in_parts}
use Rattle.flow_task.proofs.Scatters.{all_ready, inputs_stay_by, kept_in_order, lines_many, moved, starts_same, wired_same}
use Rattle.flow_board.proofs.scattering.scatter_home.Goals as goal

abbrev begun_by : {W : Type 0} → Snapshot (NetParts W) → NetState
begun_by begun = apart_in begun.value

pub join-requires-clause-unasked : goal.join-requires-clause-unasked
join-requires-clause-unasked g c = c.into_parts-apart.ensures.unasked

pub join-requires-clause-in_order : goal.join-requires-clause-in_order
join-requires-clause-in_order g c =
    let net = c.args.net in
    let apart = c.into_parts-apart in
    let means = g.W.Runs.meaning in
    subst (λ (layout : Layout _). ∥ NetInOrder layout (works_of means layout) (apart_in apart.result) ∥₁) (sym apart.ensures.same_layout)
    (subst (λ (state : NetState). ∥ NetInOrder (layout_in net) (works_of means (layout_in net)) state ∥₁) (sym apart.ensures.same_parts)
    (kept_in_order (layout_in net) (works_of means (layout_in net)) (parts_of net) net.kept))

pub new-requires : goal.new-requires
new-requires g c =
    let net = c.args.net in
    let apart = c.into_parts-apart in
    let order = kept_in_order (layout_in net) (works_of g.W.Runs.meaning (layout_in net)) (parts_of net) net.kept in
    let count = ∥∥₁_elim order (ℕ_set _ _) (λ o. o.node_count) in
    ap (λ (state : NetState). length state.nodes) apart.ensures.same_parts ∙ count
    ∙ ap (λ (layout : Layout _). length layout.blocks) (sym apart.ensures.same_layout)

pub wire_up-requires : goal.wire_up-requires
wire_up-requires g c κs within =
    let net = c.args.net in
    let apart = c.into_parts-apart in
    let means = g.W.Runs.meaning in
    let order =
    subst (λ (layout : Layout _). ∥ NetInOrder layout (works_of means layout) (apart_in apart.result) ∥₁) (sym apart.ensures.same_layout)
    (subst (λ (state : NetState). ∥ NetInOrder (layout_in net) (works_of means (layout_in net)) state ∥₁) (sym apart.ensures.same_parts)
    (kept_in_order (layout_in net) (works_of means (layout_in net)) (parts_of net) net.kept)) in
    let home =
    subst (λ (layout : Layout _). (l : ℕ) → l < length layout.links → is_crossing (line_at (apart_in apart.result) l).phase ≡ false) (sym apart.ensures.same_layout)
    (subst (λ (state : NetState). (l : ℕ) → l < length (layout_in net).links → is_crossing (line_at state l).phase ≡ false) (sym apart.ensures.same_parts)
    c.requires.home) in
    (within, all_ready (apart_layout apart.result) (works_of means (apart_layout apart.result)) (apart_in apart.result) order home)

pub fill-requires : goal.fill-requires
fill-requires g c κs within =
    let net = c.args.net in
    let apart = c.into_parts-apart in
    let old = apart.result in
    let new = c.wire_up.new.apart in
    let means = g.W.Runs.meaning in
    let layout = layout_of old.plan in
    let wired = c.in-Ok-wire_up.wired in
    let order =
    subst (λ (lay : Layout _). ∥ NetInOrder lay (works_of means lay) (apart_in old) ∥₁) (sym apart.ensures.same_layout)
    (subst (λ (state : NetState). ∥ NetInOrder (layout_in net) (works_of means (layout_in net)) state ∥₁) (sym apart.ensures.same_parts)
    (kept_in_order (layout_in net) (works_of means (layout_in net)) (parts_of net) net.kept)) in
    let p = sym c.wire_up.ensures.plan in
    let n = sym (ap (λ v. v.items) c.wire_up.ensures.nodes) in
    let i = sym (ap (λ v. v.items) c.wire_up.ensures.inputs) in
    let e = sym (ap (λ v. v.items) c.wire_up.ensures.exits) in
    let parts = in_parts layout (works_of means layout) (apart_in old) old.plan.laid_out order in
    let count = lines_many layout (works_of means layout) (apart_in old) order in
    let made = subst (λ (k : ℕ). AreWired (starts_of layout (apart_in old)) k wired.wires.items wired.sources.items wired.targets.items) count c.in-Ok-wire_up.ensures.made in
    let again = wired_same (starts_of layout (apart_in old))
    (starts_of layout (record { nodes = old.nodes.items; inputs = old.inputs.items; exits = old.exits.items; lines = new.lines.items }))
    (length layout.links) wired.wires.items wired.sources.items wired.targets.items
    (starts_same layout old.nodes.items old.inputs.items old.exits.items old.lines.items new.lines.items) made in (
      within,
      (
        refl,
        (
          refl,
          (
            refl,
            (
              c.in-Ok-wire_up.ensures.count ∙ count ∙ ap (λ (plan : Plan _). length (layout_of plan).links) p,
              (
                moved (λ plan nodes inputs exits. IsRoomFor (layout_of plan) nodes inputs exits c.in-Ok.frame) old.plan new.plan old.nodes.items
                    new.nodes.items old.inputs.items new.inputs.items old.exits.items new.exits.items p n i e c.in-Ok.ensures,
                (
                  moved (λ plan nodes inputs exits. AreInOrder (layout_of plan) (works_of means (layout_of plan)) nodes inputs exits) old.plan
                      new.plan old.nodes.items new.nodes.items old.inputs.items new.inputs.items old.exits.items new.exits.items p n i e parts,
                  (
                    moved
                        (λ plan nodes inputs exits. AreWired (starts_of (layout_of plan) (record { nodes = nodes; inputs = inputs; exits = exits; lines = new.lines.items }))
                        (length (layout_of plan).links) wired.wires.items wired.sources.items wired.targets.items)
                        old.plan new.plan old.nodes.items new.nodes.items old.inputs.items new.inputs.items old.exits.items new.exits.items p n i e again,
                    (
                      ap (λ (parts : NetParts _). parts.nodes.items) c.of-begun.ensures ∙ n,
                      (
                        ap (λ (parts : NetParts _). parts.inputs.items) c.of-begun.ensures ∙ i,
                        ap (λ (parts : NetParts _). parts.exits.items) c.of-begun.ensures ∙ e,
                      ),
                    ),
                  ),
                ),
              ),
            ),
          ),
        ),
      ),
    )

pub join-requires-in-Err-wire_up-clause-unasked : goal.join-requires-in-Err-wire_up-clause-unasked
join-requires-in-Err-wire_up-clause-unasked g c =
    ap (λ (exits : List ExitState). none_wait (map caller_of exits)) (ap (λ v. v.items) c.wire_up.ensures.exits) ∙ c.into_parts-apart.ensures.unasked

pub join-requires-in-Err-wire_up-clause-in_order : goal.join-requires-in-Err-wire_up-clause-in_order
join-requires-in-Err-wire_up-clause-in_order g c =
    let net = c.args.net in
    let apart = c.into_parts-apart in
    let old = apart.result in
    let new = c.wire_up.new.apart in
    let means = g.W.Runs.meaning in
    let layout = layout_of old.plan in
    let order =
    subst (λ (lay : Layout _). ∥ NetInOrder lay (works_of means lay) (apart_in old) ∥₁) (sym apart.ensures.same_layout)
    (subst (λ (state : NetState). ∥ NetInOrder (layout_in net) (works_of means (layout_in net)) state ∥₁) (sym apart.ensures.same_parts)
    (kept_in_order (layout_in net) (works_of means (layout_in net)) (parts_of net) net.kept)) in
    let p = sym c.wire_up.ensures.plan in
    let n = sym (ap (λ v. v.items) c.wire_up.ensures.nodes) in
    let i = sym (ap (λ v. v.items) c.wire_up.ensures.inputs) in
    let e = sym (ap (λ v. v.items) c.wire_up.ensures.exits) in
    let parts =
    moved (λ plan nodes inputs exits. AreInOrder (layout_of plan) (works_of means (layout_of plan)) nodes inputs exits) old.plan new.plan
    old.nodes.items new.nodes.items old.inputs.items new.inputs.items old.exits.items new.exits.items p n i e
    (in_parts layout (works_of means layout) (apart_in old) old.plan.laid_out order) in
    let count = c.in-Err-wire_up.ensures.count ∙ lines_many layout (works_of means layout) (apart_in old) order
    ∙ ap (λ (plan : Plan _). length (layout_of plan).links) p in
    let same = λ (l : ℕ).
    moved
    (λ plan nodes inputs exits. starts_of layout (apart_in old) l
    ≡ starts_of (layout_of plan) (record { nodes = nodes; inputs = inputs; exits = exits; lines = new.lines.items }) l)
    old.plan new.plan old.nodes.items new.nodes.items old.inputs.items new.inputs.items old.exits.items new.exits.items p n i e
    (starts_same layout old.nodes.items old.inputs.items old.exits.items old.lines.items new.lines.items l) in
    in_order (layout_of new.plan) (works_of means (layout_of new.plan)) (apart_in new) new.plan.laid_out parts count
    (λ l small.
    subst (λ (start : Start). LinkOk start.facts (get_or new.lines.items l idle).phase (get_or new.lines.items l idle).slot start.source start.target)
    (same l) (c.in-Err-wire_up.ensures.back l (subst (λ (k : ℕ). l < k) (sym count) small)).in_order)

pub returns-in-Err-clause-looked_back : goal.returns-in-Err-clause-looked_back
returns-in-Err-clause-looked_back g c =
    let apart = c.into_parts-apart in
    let layout = apart_layout apart.result in
    let means = g.W.Runs.meaning in
    let new = parts_of c.join.result in
    subst (λ (lay : Layout _). HasLookedAround means lay (parts_of c.args.net) new) apart.ensures.same_layout
    (subst (λ (state : NetState). HasLookedAround means layout state new) apart.ensures.same_parts
    (apart.result.lines.items, c.join.ensures.looked))

pub returns-in-Err-wire_up-clause-looked_back : goal.returns-in-Err-wire_up-clause-looked_back
returns-in-Err-wire_up-clause-looked_back g c =
    let apart = c.into_parts-apart in
    let old = apart.result in
    let now = c.wire_up.new.apart in
    let means = g.W.Runs.meaning in
    let new = parts_of c.join-in-Err-wire_up.result in
    let lines = now.lines.items in
    subst (λ (lay : Layout _). HasLookedAround means lay (parts_of c.args.net) new) apart.ensures.same_layout
    (subst (λ (state : NetState). HasLookedAround means (apart_layout old) state new) apart.ensures.same_parts (
      lines,
      c.join-in-Err-wire_up.ensures.looked
          ∙ moved (λ plan nodes inputs exits.
          all_looked (layout_of now.plan) (works_of means (layout_of now.plan)) (length (layout_of now.plan).links) (apart_in now)
          ≡ all_looked (layout_of plan) (works_of means (layout_of plan)) (length (layout_of plan).links)
          (record { nodes = nodes; inputs = inputs; exits = exits; lines = lines }))
          now.plan old.plan now.nodes.items old.nodes.items now.inputs.items old.inputs.items now.exits.items old.exits.items
          c.wire_up.ensures.plan (ap (λ v. v.items) c.wire_up.ensures.nodes) (ap (λ v. v.items) c.wire_up.ensures.inputs)
          (ap (λ v. v.items) c.wire_up.ensures.exits) refl,
    ))

pub returns-in-Ok-wire_up-clause-begun : goal.returns-in-Ok-wire_up-clause-begun
returns-in-Ok-wire_up-clause-begun g c =
    ap begun_by c.fill.ensures.begun ∙ ap apart_in c.of-begun.ensures ∙ c.into_parts-apart.ensures.same_parts

pub returns-in-Ok-wire_up-clause-journals : goal.returns-in-Ok-wire_up-clause-journals
returns-in-Ok-wire_up-clause-journals g c =
    let net = c.args.net in
    let apart = c.into_parts-apart in
    let means = g.W.Runs.meaning in
    let nodes = ap (λ v. v.items) c.wire_up.ensures.nodes ∙ ap (λ (state : NetState). state.nodes) apart.ensures.same_parts in
    let begun = ap begun_by c.fill.ensures.begun ∙ ap apart_in c.of-begun.ensures ∙ apart.ensures.same_parts in
    let order = kept_in_order (layout_in net) (works_of means (layout_in net)) (parts_of net) net.kept in
    let count = ∥∥₁_elim order (ℕ_set _ _) (λ o. o.node_count) in
    ap (λ (k : ℕ). map marks_in (take k c.fill.result.tasks.items)) (sym (ap length nodes ∙ count))
    ∙ c.fill.ensures.journals ∙ ap (map (λ (node : NodeState). node.journal)) nodes ∙ sym (ap journals_of begun)

pub returns-in-Ok-wire_up-clause-received : goal.returns-in-Ok-wire_up-clause-received
returns-in-Ok-wire_up-clause-received g c =
    let apart = c.into_parts-apart in
    let exits = ap (λ v. v.items) c.wire_up.ensures.exits ∙ ap (λ (state : NetState). state.exits) apart.ensures.same_parts in
    let begun = ap begun_by c.fill.ensures.begun ∙ ap apart_in c.of-begun.ensures ∙ apart.ensures.same_parts in
    c.fill.ensures.received ∙ exits ∙ sym (ap (λ (state : NetState). state.exits) begun)

pub returns-in-Err-wire_up-clause-inputs_stay : goal.returns-in-Err-wire_up-clause-inputs_stay
returns-in-Err-wire_up-clause-inputs_stay g c =
    let inputs = ap (λ v. v.items) c.wire_up.ensures.inputs ∙ ap (λ (state : NetState). state.inputs) c.into_parts-apart.ensures.same_parts in
    inputs_stay_by (apart_in c.wire_up.new.apart) (parts_of c.args.net) (parts_of c.join-in-Err-wire_up.result) inputs c.join-in-Err-wire_up.ensures.inputs_stay

pub returns-in-Err-wire_up-clause-journals_back : goal.returns-in-Err-wire_up-clause-journals_back
returns-in-Err-wire_up-clause-journals_back g c =
    let nodes = ap (λ v. v.items) c.wire_up.ensures.nodes ∙ ap (λ (state : NetState). state.nodes) c.into_parts-apart.ensures.same_parts in
    c.join-in-Err-wire_up.ensures.journals ∙ ap (map (λ (node : NodeState). node.journal)) nodes

pub returns-in-Ok-wire_up-clause-taken : goal.returns-in-Ok-wire_up-clause-taken
returns-in-Ok-wire_up-clause-taken g c =
    let net = c.args.net in
    let means = g.W.Runs.meaning in
    let parts = c.fill.result in
    let begun = ap begun_by c.fill.ensures.begun ∙ ap apart_in c.of-begun.ensures ∙ c.into_parts-apart.ensures.same_parts in
    let layout : board_layout parts.board ≡ layout_in net =
    ap layout_of c.fill.ensures.plan ∙ ap layout_of c.wire_up.ensures.plan ∙ c.into_parts-apart.ensures.same_layout in
    subst (λ (lay : Layout _). KnowsTaken means lay (begun_in parts.board)) (sym layout)
    (subst (KnowsTaken means (layout_in net)) (sym begun) (knows_taken means net.engine.plan (parts_of net) net.kept c.requires.home))
