-- A step of a task about one end of its links: its node merely is in order, so it is afterwards, and each end knows what the node then
-- knows of its link.
use Rattle.std.proofs.Common.{◌≡◌, ℕ, ◌<◌, cond, Bool, true, false, List, length, map, slice_set, slice_index_or, slice_get, Option, Some, is_some, Result, refl, sym, ap, ◌∙◌, subst, arith}
use Rattle.std.specs.Coded.{codes}
use Rattle.std.proofs.Math.Logic.{∥∥₁_elim, ∥∥₁_map}
use Rattle.std.proofs.Math.Nat.{ℕ_set}
use Rattle.atomic_table.specs.Seated.{TableId, table_id_coded}
use Rattle.flow_value.specs.declared.value.Value.{Value}
use Rattle.flow_value.specs.contracts.value.Value as content
use Rattle.flow_link.specs.declared.phase.Move.{Move}
use Rattle.flow_link.specs.declared.phase.Phase.{Phase}
use Rattle.flow_link.specs.declared.stage.Refusal.{Refusal}
use Rattle.flow_link.specs.declared.stage.SourceStage.{SourceStage as SourceKept}
use Rattle.flow_link.specs.declared.stage.TargetStage.{TargetStage as TargetKept}
use Rattle.flow_link.specs.declared.trace.Mark.{Mark}
use Rattle.flow_link.specs.Facts.{facts_in}
use Rattle.flow_link.specs.Layout.{Layout}
use Rattle.flow_link.specs.Looks.{looking_in, looking_out}
use Rattle.flow_link.specs.Plan.{is_one_taker}
use Rattle.flow_link.specs.Stage.{source_stage_of, target_stage_of}
use Rattle.flow_link.specs.Views.{SourceView, TargetView, LinkFacts}
use Rattle.flow_link.specs.WellFormed.{IsWellFormed}
use Rattle.flow_link.proofs.LinksTell.{ends_numbered}
use Rattle.flow_intake.specs.Port.{end_in}
use Rattle.flow_outlet.specs.declared.ends.LinkRule.{LinkRule}
use Rattle.flow_outlet.specs.declared.ends.OutEnd.{OutEnd}
use Rattle.flow_outlet.specs.End.{id_of}
use Rattle.flow_outlet.specs.Outlet.{end_at, stage_at as stage_at_exit}
use Rattle.flow_spread.specs.Spread.{link_at, stage_at as stage_of_copy}
use Rattle.flow_block.specs.Block.{port_at}
use Rattle.flow_block.specs.Node.{NodeState, NodeCall, given_next, in_view, source_view, view_of_out}
use Rattle.flow_block.specs.Planned.{block_makes}
use Rattle.flow_block_law.specs.NextMoves.{next_in, next_source}
use Rattle.flow_block_law.specs.NodeLaw.{NodeLaw}
use Rattle.flow_block_law.proofs.NextMoves.{next_moves_may}
use Rattle.flow_block_law.proofs.NodesKept.{nodes_kept}
use Rattle.flow_block_law.proofs.ViewsMove.{calls_move_views}
use Rattle.flow_core.specs.Events.{node_after, in_call, source_call, source_look}
use Rattle.flow_core.specs.MovesFit.{OutFits, InFits, out_count, out_rule, in_count}
use Rattle.flow_core.proofs.BlocksFit.{blocks_fit}
use Rattle.flow_core.proofs.EndsStep.{OutSteps, InSteps}
use Rattle.flow_core.proofs.NodesStep.{out_moves, in_moves, out_looks, in_looks}
use Rattle.flow_core.proofs.PlacesRule.{out_rule_is, in_link_is}
use Rattle.flow_core.proofs.TargetsFit.{targets_fit}
use Rattle.flow_moves.specs.Calls.{Calls, called, handed}
use Rattle.flow_moves.specs.Ready.{ExitIsReady, InIsReady}
use Rattle.flow_moves.proofs.MovesReady.{end_ready, in_ready}
use Rattle.flow_moves.proofs.OneProof.{exit_ready_prop, in_ready_prop}
use Rattle.flow_wire.specs.Ends.{SourceOf, TargetOf, FoundOut, FoundIn}
use Rattle.flow_task.specs.Known.{OutKnown, InKnown, out_known, in_known, link_from, link_to, out_due, in_due, outs_due, port_due, ins_due}
use Rattle.flow_task.specs.Words.{MayMoveOut, MayMoveIn, moved_out, moved_in, header_of, opens}
use Rattle.flow_task.proofs.EndsOf.{outs_stay, ins_stay, outs_set, ins_set}
use Rattle.flow_task.proofs.Places.{at_place, count_is, found_low}
use Rattle.flow_task.proofs.WiresTell.{first_of}
use Rattle.flow_task.proofs.WordsFit.{out_moved, out_may, in_moved, in_may, out_prop, in_prop}

Outs-set : IsSet (List OutKnown)
Outs-set = Prim.hlevel (codes, table_id_coded, content.the_row.coded)

Ins-set : IsSet (List (List InKnown))
Ins-set = Prim.hlevel (codes, table_id_coded, content.the_row.coded)

some_is : {A : Type 0} {x y : A} → Some x ≡ Some y → x ≡ y
some_is e = cc

-- an end that knows something else now
abbrev pub out_knows : SourceView Value → OutKnown → OutKnown
out_knows view known = record known { view = view }

abbrev pub in_knows : TargetView Value → InKnown → InKnown
in_knows view known = record known { view = view }

-- the stage of an end out of a block, as its node keeps it
abbrev pub stage_kept : ℕ → NodeState → SourceKept
stage_kept k node = cond (is_one_taker node.block.kind) (stage_at_exit node.block.exits k) (stage_of_copy node.block.copies k)

stage_by : (sharing : Bool) (journal : List Mark) (shared copied : OutEnd)
    → (cond sharing (view_of_out journal shared) (view_of_out journal copied)).stage
    ≡ source_stage_of (cond sharing shared.stage copied.stage)
stage_by true journal shared copied = refl
stage_by false journal shared copied = refl

pub stage_is : (k : ℕ) (node : NodeState) → (source_view k node).stage ≡ source_stage_of (stage_kept k node)
stage_is k node = stage_by (is_one_taker node.block.kind) node.journal (end_at node.block.exits k) (link_at node.block.copies k)

module _ {W : Type 0} (layout : Layout W) (meaning : ℕ → Value → Result (List Value) ℕ) (wires : List TableId) (b : ℕ)
    (well : IsWellFormed layout.blocks layout.links) (there : b < length layout.blocks) (node : NodeState)
    (law : ∥ NodeLaw layout meaning b node ∥₁) where
  abbrev Law : NodeState → Type 0
  Law new = NodeLaw layout meaning b new

  -- what code is told of a call, the call is
  called_is : (call : Option NodeCall) → called (block_makes layout meaning b) call node ≡ node_after layout meaning b call node
  called_is (Some call) = refl
  called_is _ = refl

  comes_to : (call : Option NodeCall) (new : NodeState) → Calls call node new → new ≡ node_after layout meaning b call node
  comes_to call new calls = calls (block_makes layout meaning b) ∙ called_is call

  -- Out of the block

  module _ (k : ℕ) (small : k < out_count node) where
    abbrev link : ℕ
    link = link_from layout wires b k

    pub link_is : (out_rule k node).id ≡ link
    link_is = ∥∥₁_elim law (ℕ_set _ _) (λ l. ap (λ (rule : LinkRule). rule.id) (out_rule_is layout meaning b node l k small))

    -- the end at the place is what it is to be
    pub out_here : (outs : List SourceOf) (end : SourceOf) → map out_known outs ≡ outs_due layout wires b node
        → end ≡ slice_index_or outs k end → out_known end ≡ out_due layout wires b node k
    out_here outs end know is =
        ap out_known is ∙ at_place out_known (out_due layout wires b node) (out_count node) outs k end know small

    -- its wire is one of the board's
    pub wire_low : (outs : List SourceOf) → map out_known outs ≡ outs_due layout wires b node → link < length wires
    wire_low outs know =
        let many = count_is out_known (out_due layout wires b node) (out_count node) outs know in
        let first = first_of outs (omega (arith, many, small)) in
        let here = at_place out_known (out_due layout wires b node) (out_count node) outs k first know small in
        found_low wires link (slice_index_or outs k first).table (sym (ap (λ (known : OutKnown). known.table) here))

    pub its_wire : (end : SourceOf) → out_known end ≡ out_due layout wires b node k → (wire : TableId) → slice_get wires link ≡ Some wire
        → end.table ≡ wire
    its_wire end here wire is = some_is (ap (λ (known : OutKnown). known.table) here ∙ is)

    -- an end out of it knows this now, and no other learned anything
    pub record OutStep (seen : SourceView Value) (new : NodeState) : Type 0 where
      pub steps : OutSteps layout meaning b k node new
      pub here : source_view k new ≡ seen

    module _ (seen : SourceView Value) (new : NodeState) (step : Law node → OutStep seen new) where
      pub out_law : ∥ NodeLaw layout meaning b new ∥₁
      out_law = ∥∥₁_map law (λ l. (step l).steps.law)

      pub out_ins : ins_due layout wires b node ≡ ins_due layout wires b new
      out_ins =
          ∥∥₁_elim law (Ins-set _ _) (λ l.
          ins_stay layout meaning b wires (λ q j. ⊥) (λ j. j ≡ k) node new l (step l).steps (λ q j about. about))

      pub out_outs : (outs : List SourceOf) (end : SourceOf) → map out_known outs ≡ outs_due layout wires b node
          → out_known end ≡ out_knows seen (out_due layout wires b node k)
          → map out_known (slice_set outs k end) ≡ outs_due layout wires b new
      out_outs outs end know now =
          ∥∥₁_elim law (Outs-set _ _) (λ l.
          outs_set layout meaning b wires (λ q j. ⊥) (λ j. j ≡ k) node new l (step l).steps outs know k end small (λ j about. about)
          (now ∙ ap (λ (view : SourceView Value). out_knows view (out_due layout wires b node k)) (sym (step l).here)))

    -- It looks

    pub looks_out : (facts : LinkFacts) (phase : Phase) (view : SourceView Value) → FoundOut facts phase view
        → facts ≡ facts_in layout link → view ≡ source_view k node → (new : NodeState)
        → Calls (Some (source_look node.block.kind k phase)) node new → Law node → OutStep (looking_out phase (source_view k node)) new
    looks_out facts phase view found facts_are view_is new calls l =
        let ok = subst (λ (f : LinkFacts). FoundOut f phase (source_view k node)) facts_are
        (subst (λ (v : SourceView Value). FoundOut facts phase v) view_is found) in
        let looked = out_looks (nodes_kept W) (calls_move_views W) layout meaning b node l k link phase ok.0 ok.1 small
        (out_rule_is layout meaning b node l k small) ok.2 in
        let step : OutStep (looking_out phase (source_view k node))
        (node_after layout meaning b (Some (source_look node.block.kind k phase)) node) =
        record { steps = looked.steps; here = looked.seen } in
        subst (OutStep (looking_out phase (source_view k node))) (sym (comes_to (Some (source_look node.block.kind k phase)) new calls)) step

    -- It moves

    module _ (next : Move) (peek : next_source k node ≡ Some next) where
      abbrev after_move : NodeState
      after_move = node_after layout meaning b (source_call node.block.kind k next) node

      fits_out : Law node → OutFits (facts_in layout link) (given_next node) next (source_view k node) (source_view k after_move)
      fits_out l =
          blocks_fit (nodes_kept W) (calls_move_views W) next_moves_may layout meaning well b there node l k link small
          (out_rule_is layout meaning b node l k small) next peek

      pub moves_ready : ExitIsReady k next node
      moves_ready =
          ∥∥₁_elim law (exit_ready_prop (is_one_taker node.block.kind) k next node) (λ l.
          end_ready layout meaning b node l well there k next peek (is_one_taker node.block.kind) refl small)

      pub moves_may : (stage : SourceKept) → (source_view k node).stage ≡ source_stage_of stage
          → MayMoveOut next (id_of stage) (handed next (given_next node)) (facts_in layout link) (source_view k node)
      moves_may stage stands =
          ∥∥₁_elim law (out_prop next (id_of stage) (handed next (given_next node)) (facts_in layout link) (source_view k node)) (λ l.
          out_may (facts_in layout link) (given_next node) (source_view k node) (source_view k after_move) stage stands next (fits_out l))

      pub moves_out : (new : NodeState) → Calls (source_call node.block.kind k next) node new → Law node
          → OutStep (moved_out next (handed next (given_next node)) (source_view k node)) new
      moves_out new calls l =
          let seen = moved_out next (handed next (given_next node)) (source_view k node) in
          let step : OutStep seen after_move = record {
            steps = out_moves (nodes_kept W) (calls_move_views W) layout meaning b node l next_moves_may well there k small next peek;
            here = out_moved (facts_in layout link) (given_next node) (source_view k node) (source_view k after_move) next (fits_out l);
          } in
          subst (OutStep seen) (sym (comes_to (source_call node.block.kind k next) new calls)) step

  -- Into it

  module _ (p k : ℕ) (port : p < length node.block.ports) (small : k < in_count p node) where
    abbrev link_in : ℕ
    link_in = link_to layout wires b p k

    abbrev refusing : Option Refusal
    refusing = (port_at p node.block).refusing

    pub link_in_is : (end_in k (port_at p node.block).ends).link ≡ link_in
    link_in_is = ∥∥₁_elim law (ℕ_set _ _) (λ l. in_link_is layout meaning b node l p k port)

    module _ {L : Type 0} (ends_of : L → List TargetOf) (ports : List L)
        (know : map (λ (l : L). map in_known (ends_of l)) ports ≡ ins_due layout wires b node) where
      pub port_here : (l : L) → l ≡ slice_index_or ports p l → map in_known (ends_of l) ≡ port_due layout wires b node p
      port_here l is =
          ap (λ (x : L). map in_known (ends_of x)) is
          ∙ at_place (λ (x : L). map in_known (ends_of x)) (port_due layout wires b node) (length node.block.ports) ports p l know port

      pub in_here : (l : L) (end : TargetOf) → l ≡ slice_index_or ports p l → end ≡ slice_index_or (ends_of l) k end
          → in_known end ≡ in_due layout wires b p node k
      in_here l end is at =
          ap in_known at
          ∙ at_place in_known (in_due layout wires b p node) (in_count p node) (ends_of l) k end (port_here l is) small

    -- its wire is one of the board's
    module _ (in_ends : List TargetOf) (are : map in_known in_ends ≡ port_due layout wires b node p) where
      pub wire_in_low : link_in < length wires
      wire_in_low =
          let many = count_is in_known (in_due layout wires b p node) (in_count p node) in_ends are in
          let first = first_of in_ends (omega (arith, many, small)) in
          let here = at_place in_known (in_due layout wires b p node) (in_count p node) in_ends k first are small in
          found_low wires link_in (slice_index_or in_ends k first).table (sym (ap (λ (known : InKnown). known.table) here))

    pub wire_at_port : {L : Type 0} (ends_of : L → List TargetOf) (ports : List L)
        → map (λ (l : L). map in_known (ends_of l)) ports ≡ ins_due layout wires b node → link_in < length wires
    wire_at_port ends_of ports know =
        let many = count_is (λ l. map in_known (ends_of l)) (port_due layout wires b node) (length node.block.ports) ports know in
        let first = first_of ports (omega (arith, many, port)) in
        wire_in_low (ends_of (slice_index_or ports p first))
        (at_place (λ l. map in_known (ends_of l)) (port_due layout wires b node) (length node.block.ports) ports p first know port)

    pub its_wire_in : (end : TargetOf) → in_known end ≡ in_due layout wires b p node k → (wire : TableId)
        → slice_get wires link_in ≡ Some wire → end.table ≡ wire
    its_wire_in end here wire is = some_is (ap (λ (known : InKnown). known.table) here ∙ is)

    pub record InStep (seen : TargetView Value) (new : NodeState) : Type 0 where
      pub steps : InSteps layout meaning b p k node new
      pub here : in_view p k new ≡ seen

    module _ (seen : TargetView Value) (new : NodeState) (step : Law node → InStep seen new) where
      pub in_law : ∥ NodeLaw layout meaning b new ∥₁
      in_law = ∥∥₁_map law (λ l. (step l).steps.law)

      pub in_outs : outs_due layout wires b node ≡ outs_due layout wires b new
      in_outs =
          ∥∥₁_elim law (Outs-set _ _) (λ l.
          outs_stay layout meaning b wires (λ q j. (q ≡ p) × (j ≡ k)) (λ j. ⊥) node new l (step l).steps (λ j about. about))

      pub in_ins : {L : Type 0} (ends_of : L → List TargetOf) (ports : List L)
          → map (λ (l : L). map in_known (ends_of l)) ports ≡ ins_due layout wires b node
          → (old changed : L) (end : TargetOf) → old ≡ slice_index_or ports p old → ends_of changed ≡ slice_set (ends_of old) k end
          → in_known end ≡ in_knows seen (in_due layout wires b p node k)
          → map (λ (l : L). map in_known (ends_of l)) (slice_set ports p changed) ≡ ins_due layout wires b new
      in_ins ends_of ports know old changed end is set now =
          ∥∥₁_elim law (Ins-set _ _) (λ l.
          ins_set layout meaning b wires (λ q j. (q ≡ p) × (j ≡ k)) (λ j. ⊥) node new l (step l).steps ends_of ports know p k old changed
          end port small is set (λ q j about. about)
          (now ∙ ap (λ (view : TargetView Value). in_knows view (in_due layout wires b p node k)) (sym (step l).here)))

    -- It looks

    pub looks_in : (facts : LinkFacts) (phase : Phase) (view : TargetView Value) → FoundIn facts phase view
        → (new : NodeState) → Calls (Some (NodeCall.look_in p k phase)) node new → Law node
        → InStep (looking_in phase (in_view p k node)) new
    looks_in facts phase view found new calls l =
        let looked = in_looks (nodes_kept W) (calls_move_views W) layout meaning b node l p k port small phase
        (ends_numbered facts _ phase found.2.plan.ends) in
        let step : InStep (looking_in phase (in_view p k node)) (node_after layout meaning b (Some (NodeCall.look_in p k phase)) node) =
        record { steps = looked.steps; here = looked.seen } in
        subst (InStep (looking_in phase (in_view p k node))) (sym (comes_to (Some (NodeCall.look_in p k phase)) new calls)) step

    -- It moves

    module _ (next : Move) (peek : next_in p k node ≡ Some next) (slot : Option Value) where
      abbrev after_in : NodeState
      after_in = node_after layout meaning b (in_call p k slot next) node

      fits_in : Law node → InFits (facts_in layout link_in) refusing slot next (in_view p k node) (in_view p k after_in)
      fits_in l =
          targets_fit (calls_move_views W) next_moves_may layout meaning well b there node l p k link_in port small
          (in_link_is layout meaning b node l p k port) slot next peek

      pub enters_ready : (opens next ≡ true → is_some slot ≡ true) → InIsReady p k slot next node
      enters_ready full =
          ∥∥₁_elim law (in_ready_prop p k slot next node) (λ l.
          in_ready layout meaning b node l p k slot next ((next_moves_may layout meaning b node well there l).0 p k next port small peek)
          (λ is. full (ap opens is)))

      pub enters_may : (stage : TargetKept) (hand : Option Value) → (in_view p k node).stage ≡ target_stage_of stage hand
          → MayMoveIn next (header_of stage) refusing (facts_in layout link_in) (in_view p k node)
      enters_may stage hand stands =
          ∥∥₁_elim law (in_prop next (header_of stage) refusing (facts_in layout link_in) (in_view p k node)) (λ l.
          in_may (facts_in layout link_in) refusing slot (in_view p k node) (in_view p k after_in) stage hand stands next (fits_in l))

      pub moves_in : (opens next ≡ true → is_some slot ≡ true) → (new : NodeState) → Calls (in_call p k slot next) node new → Law node
          → InStep (moved_in next refusing slot (in_view p k node)) new
      moves_in full new calls l =
          let seen = moved_in next refusing slot (in_view p k node) in
          let step : InStep seen after_in = record {
            steps = in_moves (nodes_kept W) (calls_move_views W) layout meaning b node l next_moves_may well there p k port small slot next peek;
            here = in_moved (facts_in layout link_in) refusing slot (in_view p k node) (in_view p k after_in) next full (fits_in l);
          } in
          subst (InStep seen) (sym (comes_to (in_call p k slot next) new calls)) step
