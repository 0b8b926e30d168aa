-- The next move of a node at an end of a link, and its look there, keep the node in order, and no other end of it learns anything.
use Rattle.std.proofs.Common.{◌≡◌, ℕ, ◌<◌, Bool, true, false, cond, List, length, Option, Some, Result, refl, ap, sym, ◌∙◌, subst, arith}
use Rattle.std.proofs.lemmas.Bool.{OnTrue_from}
use Rattle.flow_value.specs.declared.value.Value.{Value}
use Rattle.flow_link.specs.declared.phase.Move.{Move}
use Rattle.flow_link.specs.declared.phase.Phase.{Phase}
use Rattle.flow_link.specs.declared.stage.SourceStage.{SourceStage}
use Rattle.flow_link.specs.declared.stage.SourceStage.TheVariants as source
use Rattle.flow_link.specs.Facts.{facts_in}
use Rattle.flow_link.specs.Layout.{Layout}
use Rattle.flow_link.specs.LinkOk.{LinkOk, MayPutOff, source_put_off}
use Rattle.flow_link.specs.Looks.{looking_in, looking_out, source_finds}
use Rattle.flow_link.specs.Phase.{is_numbered}
use Rattle.flow_link.specs.Plan.{is_one_taker}
use Rattle.flow_link.specs.Stage.{source_stage_of, source_looks}
use Rattle.flow_link.specs.Views.{SourceStage as SourceAt, SourceView, TargetView, LinkFacts, crossed}
use Rattle.flow_link.specs.WellFormed.{IsWellFormed}
use Rattle.flow_link.proofs.LinksTell.{links_tell}
use Rattle.flow_link.proofs.StagesKept.{source_looks_kept}
use Rattle.flow_outlet.specs.declared.ends.LinkRule.{LinkRule}
use Rattle.flow_outlet.specs.Law.{is_put_off}
use Rattle.flow_outlet.specs.Outlet.{end_at, stage_at}
use Rattle.flow_spread.specs.Spread.{link_at, stage_at as copy_stage}
use Rattle.flow_block.specs.Copies.{CopyCall}
use Rattle.flow_block.specs.Node.{NodeState, NodeCall, in_view, out_view, copy_view, source_view}
use Rattle.flow_block.specs.Planned.{rule_of}
use Rattle.flow_block_law.specs.NextMoves.{NextMovesMay, next_in, next_source}
use Rattle.flow_block_law.specs.NodeKeeps.{NodesKept, MayCall, InAt, any_stage}
use Rattle.flow_block_law.specs.NodeLaw.{NodeLaw}
use Rattle.flow_block_law.specs.ViewsMove.{CallsMoveViews}
use Rattle.flow_core.specs.Events.{node_after, source_call, source_look, in_call}
use Rattle.flow_core.specs.MovesFit.{out_count, out_rule, in_count}
use Rattle.flow_core.proofs.EndsStep.{OutSteps, InSteps, in_by, in_steps, source_steps, look_steps, copied_by}
use Rattle.flow_core.proofs.SourcesByKind.{shared_view, copied_view, shared_next, copied_next}

-- a source's stage tells alike, in the program and in the model, whether its message was put off
put_off_alike : (stage : SourceStage) → source_put_off (source_stage_of stage) ≡ is_put_off stage
put_off_alike source.Free = refl
put_off_alike _ = refl

-- where a look finds an offer put off, the link may put it off
put_off_by : (facts : LinkFacts) (phase : Phase) (slot : Option Value) (view : SourceView Value) (target : TargetView Value)
    → LinkOk facts phase slot view target → (stage : SourceStage) → view.stage ≡ source_stage_of stage
    → is_put_off (source_looks stage phase) ≡ true → MayPutOff facts (crossed view)
put_off_by facts phase slot view target ok stage stands off =
    let found =
    ap (λ (s : SourceAt). source_put_off (source_finds s phase)) stands ∙ ap source_put_off (sym (source_looks_kept stage phase))
    ∙ put_off_alike (source_looks stage phase) in
    (links_tell Value).put_off_told facts phase slot view target ok (found ∙ off)

module _ {W : Type 0} (layout : Layout W) (meaning : ℕ → Value → Result (List Value) ℕ) (b : ℕ) (node : NodeState) where
  -- the end at a place has looked
  pub record OutLooks (k : ℕ) (phase : Phase) (new : NodeState) : Type 0 where
    pub steps : OutSteps layout meaning b k node new
    pub seen : source_view k new ≡ looking_out phase (source_view k node)

  pub record InLooks (p k : ℕ) (phase : Phase) (new : NodeState) : Type 0 where
    pub steps : InSteps layout meaning b p k node new
    pub seen : in_view p k new ≡ looking_in phase (in_view p k node)

module _ {W : Type 0} (kept : NodesKept W) (views : CallsMoveViews W) (layout : Layout W) (meaning : ℕ → Value → Result (List Value) ℕ)
    (b : ℕ) (node : NodeState) (law : NodeLaw layout meaning b node) where
  -- Its next move

  module _ (may : NextMovesMay W) (well : IsWellFormed layout.blocks layout.links) (low : b < length layout.blocks) where
    place_by : (k : ℕ) (sharing : Bool) → is_one_taker node.block.kind ≡ sharing → k < out_count node
        → k < cond sharing (length node.block.exits.ends) (length node.block.copies.ends)
    place_by k sharing is there =
        subst (λ (so : Bool). k < cond so (length node.block.exits.ends) (length node.block.copies.ends)) is there

    pub out_moves : (k : ℕ) → k < out_count node → (next : Move) → next_source k node ≡ Some next
        → OutSteps layout meaning b k node (node_after layout meaning b (source_call node.block.kind k next) node)
    out_moves k there next peek =
        let own = may layout meaning b node well low law in
        source_steps layout meaning kept views b node law k next (is_one_taker node.block.kind) refl
        (λ shares. own.1 k next (place_by k true shares there) (sym (shared_next k node shares) ∙ peek))
        (λ copying. own.2 k next (place_by k false copying there) (sym (copied_next k node copying) ∙ peek))

    pub in_moves : (p k : ℕ) → p < length node.block.ports → k < in_count p node → (slot : Option Value) (next : Move)
        → next_in p k node ≡ Some next
        → InSteps layout meaning b p k node (node_after layout meaning b (in_call p k slot next) node)
    in_moves p k port there slot next peek =
        in_steps layout meaning kept views b node law p k slot next
        ((may layout meaning b node well low law).0 p k next port there peek)

  -- Its look

  module _ (k l : ℕ) (phase : Phase) (slot : Option Value) (target : TargetView Value) where
    abbrev facts : LinkFacts
    facts = facts_in layout l

    shared_looks : is_one_taker node.block.kind ≡ true → k < length node.block.exits.ends
        → (end_at node.block.exits k).rule ≡ rule_of layout l → LinkOk facts phase slot (source_view k node) target
        → OutLooks layout meaning b node k phase (node_after layout meaning b (Some (NodeCall.look_out k phase)) node)
    shared_looks shares there rule_is ok =
        let call = NodeCall.look_out k phase in
        let known = shared_view k node shares in
        let seen = subst (λ (view : SourceView Value). LinkOk facts phase slot view target) known ok in
        let may : MayCall layout meaning b call node = record {
          place = there;
          put_off = OnTrue_from _ _ (λ off.
              ap (λ (rule : LinkRule). rule.steady) rule_is
              ∙ (put_off_by facts phase slot (out_view k node) target seen (stage_at node.block.exits k) refl off).not_steady);
        } in
        record {
          steps = look_steps layout meaning kept views b node law k phase may;
          seen = shared_view k (node_after layout meaning b (Some call) node) shares
              ∙ (views layout meaning b node call law may).moved ∙ ap (looking_out phase) (sym known);
        }

    copied_looks : is_one_taker node.block.kind ≡ false → k < length node.block.copies.ends
        → (link_at node.block.copies k).rule ≡ rule_of layout l → LinkOk facts phase slot (source_view k node) target
        → OutLooks layout meaning b node k phase (node_after layout meaning b (Some (NodeCall.copy (CopyCall.look k phase))) node)
    copied_looks copying there rule_is ok =
        let call = NodeCall.copy (CopyCall.look k phase) in
        let known = copied_view k node copying in
        let seen = subst (λ (view : SourceView Value). LinkOk facts phase slot view target) known ok in
        let may : MayCall layout meaning b call node = record {
          place = there;
          stands = OnTrue_from _ _ (λ off.
              let told = put_off_by facts phase slot (copy_view k node) target seen (copy_stage node.block.copies k) refl off in
              record {
                unsteady = ap (λ (rule : LinkRule). rule.steady) rule_is ∙ told.not_steady;
                late = λ sole.
                    let first = told.not_the_first (sym (ap (λ (rule : LinkRule). rule.sole) rule_is) ∙ sole) in
                    ((law.copies.copier copying).each k there).some (omega (arith, first));
              });
        } in
        record {
          steps = copied_by layout meaning kept views b node law (CopyCall.look k phase) may;
          seen = copied_view k (node_after layout meaning b (Some call) node) copying
              ∙ (views layout meaning b node call law may).moved ∙ ap (looking_out phase) (sym known);
        }

    looks_by : (sharing : Bool) → is_one_taker node.block.kind ≡ sharing
        → k < cond sharing (length node.block.exits.ends) (length node.block.copies.ends)
        → cond sharing (end_at node.block.exits k).rule (link_at node.block.copies k).rule ≡ rule_of layout l
        → LinkOk facts phase slot (source_view k node) target
        → OutLooks layout meaning b node k phase
        (node_after layout meaning b (Some (cond sharing (NodeCall.look_out k phase) (NodeCall.copy (CopyCall.look k phase)))) node)
    looks_by true shares = shared_looks shares
    looks_by false copying = copied_looks copying

    -- what the link shows it is in order
    pub out_looks : k < out_count node → out_rule k node ≡ rule_of layout l → LinkOk facts phase slot (source_view k node) target
        → OutLooks layout meaning b node k phase (node_after layout meaning b (Some (source_look node.block.kind k phase)) node)
    out_looks there rule_is ok = looks_by (is_one_taker node.block.kind) refl there rule_is ok

  pub in_looks : (p k : ℕ) → p < length node.block.ports → k < in_count p node → (phase : Phase) → is_numbered phase ≡ true
      → InLooks layout meaning b node p k phase (node_after layout meaning b (Some (NodeCall.look_in p k phase)) node)
  in_looks p k port there phase numbered =
      let call = NodeCall.look_in p k phase in
      let here : InAt any_stage p k node = record { port = port; place = there; stands = refl } in
      let may : MayCall layout meaning b call node = (here, numbered) in
      record {
        steps = in_by layout meaning kept views b node law p k call may (λ q j about. about) (λ j about. about) (λ j about. about);
        seen = (views layout meaning b node call law may).moved;
      }
