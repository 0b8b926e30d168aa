-- Each call keeps what a block copies in order.
use Rattle.std.proofs.Common.{◌≡◌, ℕ, true, false, List, [], ◌∷◌, Option, Some, None, Result, Ok, Err, refl, sym, ap, ◌∙◌}
use Rattle.flow_value.specs.declared.value.Value.{Value}
use Rattle.flow_link.specs.declared.draft.BlockKind.{BlockKind}
use Rattle.flow_link.specs.declared.draft.BlockKind.TheVariants.{Action}
use Rattle.flow_link.specs.Plan.{is_one_taker, is_broadcast, is_write_once}
use Rattle.flow_link.specs.Layout.{Layout}
use Rattle.flow_link.proofs.KindsTell.{kind_tells}
use Rattle.flow_intake.proofs.CountsOfEnds.{hand_comes}
use Rattle.flow_intake.specs.Port.{stage_at as port_stage, is_hand}
use Rattle.flow_block_law.proofs.GoingOn.{open_goes_on}
use Rattle.flow_link.proofs.ListTests.{never_both}
use Rattle.flow_intake.specs.Calls.{first_of}
use Rattle.flow_outlet.specs.Outlet.{head_of}
use Rattle.flow_spread.specs.Spread.{fresh_spread}
use Rattle.flow_block.specs.Block.{BlockState, held_by, made_of, keeps_results, yields, makes_of, copies_next, port_at, has_ports}
use Rattle.flow_block.specs.Copies.{copy_place}
use Rattle.flow_block.specs.Node.{NodeState, NodeCall, hand_at, holds_in, gives_from}
use Rattle.flow_block_law.specs.NodeKeeps.{MayCall, after_call, CopiesKept, InAt}
use Rattle.flow_block_law.specs.NodeLaw.{NodeLaw, CopiesLaw}
use Rattle.flow_block.specs.Planned.{block_makes}
use Rattle.flow_block.proofs.CopiesTaken.{taken_in_keeps}
use Rattle.flow_block_law.proofs.CopiesIdle.{no_copy_at}
use Rattle.flow_block_law.proofs.CopierKept.{call_keeps as copier_kept}
use Rattle.flow_block_law.proofs.KindsBuilt.{has_one_port, makes_by, next_by}
use Rattle.flow_block_law.proofs.ShapeHolds.{shape_kept}

-- what shares its messages out copies none, whatever it makes
record SameCopies (before after : BlockState) : Type 0 where
  kind : after.kind ≡ before.kind
  copies : after.copies ≡ before.copies

results_same : (kind : BlockKind) (values : List Value) (block : BlockState) → SameCopies block (keeps_results kind values block)
results_same Action values block = record { kind = refl; copies = refl }
results_same _ [] block = record { kind = refl; copies = refl }
results_same _ (value ∷ values) block = record { kind = refl; copies = refl }

made_same : (made : Result (List Value) ℕ) (block : BlockState) → SameCopies block (yields made block)
made_same (Ok values) block = results_same block.kind values block
made_same (Err number) block = record { kind = refl; copies = refl }

next_same : (result : Value → Result (List Value) ℕ) (held : Option Value) (block : BlockState) → SameCopies block (makes_of result held block)
next_same result None block = record { kind = refl; copies = refl }
next_same result (Some value) block = made_same (made_of block.kind result value) block

module _ {W : Type 0} (layout : Layout W) (meaning : ℕ → Value → Result (List Value) ℕ) (b : ℕ) where
  -- what shares its messages out copies none
  abbrev IsIdle : BlockState → Type 0
  IsIdle block = is_one_taker block.kind ≡ true → block.copies ≡ fresh_spread false [] 1

  stays : (before after : BlockState) → SameCopies before after → IsIdle before → IsIdle after
  stays before after same law shares = same.copies ∙ law (ap is_one_taker (sym same.kind) ∙ shares)

  take_keeps : (p k : ℕ) (hand : Option Value) (node : NodeState) → IsIdle node.block → IsIdle (holds_in p k hand node).block
  take_keeps p k None node law = law
  take_keeps p k (Some value) node law = law

  give_keeps : (k : ℕ) (head : Option Value) (node : NodeState) → IsIdle node.block → IsIdle (gives_from k head node).block
  give_keeps k None node law = law
  give_keeps k (Some value) node law = law

  copied_keeps : (first : Option Value) (block : BlockState) → is_one_taker block.kind ≡ false → IsIdle (copies_next first block)
  copied_keeps None block copying shares = never_both (is_one_taker block.kind) shares copying
  copied_keeps (Some value) block copying shares = never_both (is_one_taker block.kind) shares copying

  idle_keeps : (node : NodeState) (call : NodeCall) → NodeLaw layout meaning b node → MayCall layout meaning b call node
      → IsIdle (after_call layout meaning b call node).block
  idle_keeps node (NodeCall.close p k) law may =
      let held = holds_in p k (hand_at p k node) node in
      taken_in_keeps (λ new journal. IsIdle new) p k (hand_at p k node) node
      (take_keeps p k (hand_at p k node) node law.copies.idle)
      (λ at_once. copied_keeps (first_of (held_by held.block)) held.block (kind_tells is_write_once true is_one_taker false refl held.block.kind at_once.once))
  idle_keeps node (NodeCall.give k) law may = give_keeps k (head_of node.block.exits) node law.copies.idle
  idle_keeps node (NodeCall.copy call) law may = λ shares. absurd (no_copy_at layout meaning b node law shares (copy_place call) may.place)
  idle_keeps node NodeCall.make law may =
      next_by (λ (new : NodeState). IsIdle new.block) (block_makes layout meaning b) node
      (λ batched. law.copies.idle)
      (λ grouped.
      makes_by IsIdle (block_makes layout meaning b) node.block
      (λ batch. law.copies.idle)
      (λ join. law.copies.idle)
      (λ broadcast. copied_keeps (first_of (held_by node.block)) node.block (kind_tells is_broadcast true is_one_taker false refl node.block.kind broadcast))
      (λ other alone single. stays node.block _
      (next_same (block_makes layout meaning b) (first_of (held_by node.block)) node.block) law.copies.idle))
  idle_keeps node call law may = law.copies.idle

  -- its kind stays
  kind_stays : (node : NodeState) (call : NodeCall) → NodeLaw layout meaning b node → MayCall layout meaning b call node
      → is_one_taker (after_call layout meaning b call node).block.kind ≡ false → is_one_taker node.block.kind ≡ false
  kind_stays node call law may copying =
      let before = law.shape in
      let after = shape_kept W layout meaning b node call law may in
      ap is_one_taker (before.kind_is ∙ sym after.kind_is) ∙ copying

  -- a message that is in hand comes to a block that has not stopped
  still_goes : (node : NodeState) → NodeLaw layout meaning b node → (p k : ℕ) → InAt is_hand p k node → node.block.stopped ≡ None
  still_goes node law p k at =
      let comes = hand_comes (port_stage k (port_at p node.block)) at.stands in
      let going = open_goes_on layout meaning b node.block node.journal law.ends p at.port
      (((law.ports p at.port).each k at.place).coming comes) in
      law.ends.stopped_is ∙ going.0

  call_keeps : (node : NodeState) (call : NodeCall) → NodeLaw layout meaning b node → MayCall layout meaning b call node
      → CopiesLaw layout meaning b (after_call layout meaning b call node).block (after_call layout meaning b call node).journal
  call_keeps node call law may = record {
    idle = idle_keeps node call law may;
    copier = λ copying.
        let copied = kind_stays node call law may copying in
        copier_kept layout meaning b node (law.copies.copier copied) call may
        (has_one_port layout meaning b node.block law.shape (kind_tells is_one_taker false has_ports false refl node.block.kind copied))
        copied law.none_held (still_goes node law);
  }

pub copies_kept : (W : Type 0) → CopiesKept W
copies_kept W layout meaning b node call law may = call_keeps layout meaning b node call law may
