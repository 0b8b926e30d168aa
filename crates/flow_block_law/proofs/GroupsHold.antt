-- Each call keeps the groups of a batched join, and what it counts at its ports.
use Rattle.std.proofs.Common.{◌≡◌, ℕ, Bool, true, List, cond, length, Result, refl, ap, sym, ◌∙◌, subst, false}
use Rattle.flow_value.specs.declared.value.Value.{Value}
use Rattle.flow_link.specs.Layout.{Layout}
use Rattle.flow_link.specs.Plan.{is_one_taker, is_write_once}
use Rattle.flow_link.proofs.KindsTell.{kind_tells}
use Rattle.flow_intake.specs.Port.{stage_at as port_stage}
use Rattle.flow_intake.proofs.CountsOfEnds.{hand_comes}
use Rattle.flow_block.specs.Block.{port_at, makes, is_batched_join}
use Rattle.flow_block.specs.Copies.{copy_place}
use Rattle.flow_block_law.specs.GroupsKeep.{MayCallBatched}
use Rattle.flow_block_law.specs.GroupsLaw.{are_complete, OrderedGroups, LoadByPort}
use Rattle.flow_block_law.specs.GroupsOrdered.{after_in_order}
use Rattle.flow_group.specs.Round.{RoundState}
use Rattle.flow_block.specs.Node.{NodeState, NodeCall, with_block, hand_at, holds_in, takes_in, order_in, makes_next_group}
use Rattle.flow_block_law.specs.NodeKeeps.{MayCall, after_call, GroupsKept, GroupLoadKept}
use Rattle.flow_block_law.specs.NodeLaw.{NodeLaw}
use Rattle.flow_block.specs.Planned.{block_makes}
use Rattle.flow_block_law.proofs.CopiesIdle.{no_copy_at}
use Rattle.flow_block.proofs.CopiesTaken.{taken_as_held}
use Rattle.flow_block_law.proofs.GoingOn.{open_goes_on, may_work_tells}
use Rattle.flow_block_law.proofs.GroupsLoad.{groups_keep_load}
use Rattle.flow_block_law.proofs.GroupsOrdered.{groups_ordered}
use Rattle.flow_block_law.proofs.GroupsPeek.{ports_tell_groups}
use Rattle.flow_block_law.proofs.GroupsTold.{group_told}
use Rattle.flow_block_law.proofs.ShapeHolds.{same_kind}

-- a batched join has no round
of_any_round : (node : NodeState) (round : RoundState) → OrderedGroups node → OrderedGroups (record node { round = round })
of_any_round node round law = record { within = law.within; groups = law.groups; whole = law.whole }

module _ {W : Type 0} (layout : Layout W) (meaning : ℕ → Value → Result (List Value) ℕ) (b : ℕ) where
  -- a call that a node may make is one that a batched join may
  may_so : (node : NodeState) (call : NodeCall) → NodeLaw layout meaning b node → is_batched_join node.block.kind ≡ true
      → MayCall layout meaning b call node → MayCallBatched layout meaning b node.block.size (order_in node) call node
  may_so node NodeCall.make law batched may =
      let block = node.block in
      let tells = may_work_tells block may.waits in
      ports_tell_groups node (law.groups batched) (are_complete (length block.ports) node.journal)
      ∙ sym (group_told layout meaning b block node.journal law.ends tells.going) ∙ tells.groups batched
  may_so node (NodeCall.close p k) law batched may =
      let port = port_at p node.block in
      let open_port = ((law.ports p may.port).each k may.place).coming (hand_comes (port_stage k port) may.stands) in
      record {
        hand = may;
        unfinished = (open_goes_on layout meaning b node.block node.journal law.ends p may.port open_port).1;
      }
  may_so node (NodeCall.copy call) law batched may =
      no_copy_at layout meaning b node law (kind_tells is_batched_join true is_one_taker true refl node.block.kind batched) (copy_place call) may.place
  may_so node call law batched may = may

  -- it makes its next group
  made_same : (node : NodeState) → is_batched_join node.block.kind ≡ true
      → makes_next_group node ≡ after_call layout meaning b NodeCall.make node
  made_same node batched =
      ap (λ (grouped : Bool). cond grouped (makes_next_group node)
      (with_block (makes (block_makes layout meaning b) node.block) node))
      (sym batched)

  -- and holds what it takes
  taken_so : (node : NodeState) (p k : ℕ) → is_batched_join node.block.kind ≡ true
      → holds_in p k (hand_at p k node) node ≡ takes_in p k (hand_at p k node) node
  taken_so node p k batched =
      sym (taken_as_held p k (hand_at p k node) node (kind_tells is_batched_join true is_write_once false refl node.block.kind batched))

  groups_after : (node : NodeState) (call : NodeCall) → is_batched_join node.block.kind ≡ true
      → OrderedGroups (after_in_order (block_makes layout meaning b) call node) → OrderedGroups (after_call layout meaning b call node)
  groups_after node NodeCall.make batched law = subst OrderedGroups (made_same node batched) law
  groups_after node (NodeCall.close p k) batched law = of_any_round _ _ (subst OrderedGroups (taken_so node p k batched) law)
  groups_after node call batched law = law

  load_after : (node : NodeState) (call : NodeCall) → is_batched_join node.block.kind ≡ true
      → LoadByPort (after_in_order (block_makes layout meaning b) call node).block → LoadByPort (after_call layout meaning b call node).block
  load_after node NodeCall.make batched law = subst (λ (new : NodeState). LoadByPort new.block) (made_same node batched) law
  load_after node (NodeCall.close p k) batched law =
      subst (λ (new : NodeState). LoadByPort new.block) (taken_so node p k batched) law
  load_after node call batched law = law

  batched_before : (node : NodeState) (call : NodeCall) → NodeLaw layout meaning b node → MayCall layout meaning b call node
      → is_batched_join (after_call layout meaning b call node).block.kind ≡ true → is_batched_join node.block.kind ≡ true
  batched_before node call law may batched = ap is_batched_join (same_kind layout meaning b node call law may) ∙ batched

pub groups_kept_so : (W : Type 0) → GroupsKept W
groups_kept_so W layout meaning b node call law may is =
    let batched = batched_before layout meaning b node call law may is in
    groups_after layout meaning b node call batched
    (groups_ordered W layout meaning b node call (law.shape.some_group batched) (law.groups batched)
    (may_so layout meaning b node call law batched may))

pub group_load_kept : (W : Type 0) → GroupLoadKept W
group_load_kept W layout meaning b node call law may is =
    let batched = batched_before layout meaning b node call law may is in
    load_after layout meaning b node call batched
    (groups_keep_load W layout meaning b node call batched (law.groups batched) (law.group_load batched)
    (may_so layout meaning b node call law batched may))
