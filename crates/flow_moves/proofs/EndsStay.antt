-- A move of one end of a link leaves the other end where it is, also where both are of one block.
use Rattle.std.proofs.Common.{◌≡◌, ℕ, ◌<◌, ◌-◌, cond, length, List, Option, Some, None, Result, Ok, [], Bool, true, false, refl, sym, subst, ap, ◌∙◌}
use Rattle.std.proofs.lemmas.List.{length-set, length-map}
use Rattle.flow_value.specs.declared.value.Value.{Value}
use Rattle.flow_link.specs.declared.phase.Move.{Move}
use Rattle.flow_link.specs.declared.phase.Move.TheVariants as move
use Rattle.flow_link.specs.declared.phase.Phase.{Phase}
use Rattle.flow_link.specs.declared.plan.LinkSource.{LinkSource}
use Rattle.flow_link.specs.declared.plan.LinkSource.TheVariants.{Block, Input}
use Rattle.flow_link.specs.declared.plan.LinkTarget.{LinkTarget}
use Rattle.flow_link.specs.declared.plan.LinkTarget.TheVariants.{Port, Exit}
use Rattle.flow_intake.specs.Calls.{gives_room}
use Rattle.flow_intake.specs.Port.{PortState}
use Rattle.flow_outlet.specs.Outlet.{head_of, gives}
use Rattle.flow_link.specs.Plan.{is_one_taker}
use Rattle.flow_block.specs.Copies.{CopyCall, copies_weight, after_copy}
use Rattle.flow_block.specs.Node.{NodeState, NodeCall, with_block, hand_at, gives_from, takes_in, copies_by, holds_in}
use Rattle.flow_spread.specs.End.{takes_up}
use Rattle.flow_intake.specs.Calls.{first_of}
use Rattle.flow_block.proofs.CopiesTaken.{taken_keeps}
use Rattle.flow_block.specs.Block.{copies_next, held_by}
use Rattle.flow_block_law.specs.NodeKeeps.{InAt, any_stage}
use Rattle.flow_block.proofs.PortsChange.{port_of_map}
use Rattle.flow_block.proofs.RoomBack.{length_back, port_back}
use Rattle.flow_core.specs.Events.{out_call, copy_call, source_call, in_call, with_line}
use Rattle.flow_link.specs.declared.trace.LinkState.{LinkState}
use Rattle.flow_core.specs.State.{NetState, node_at, no_node}
use Rattle.flow_link.proofs.PlacesTell.{element_set}
use Rattle.flow_moves.specs.Calls.{called}
use Rattle.flow_moves.specs.Ready.{SourceIsThere, TargetIsThere, exit_count}
use Rattle.flow_moves.specs.Ways.{source_moved, target_moved, target_looked}

-- an end of a link into a node stays when the node gives its head
gives_stay : (k : ℕ) (head : Option Value) (node : NodeState) (p j : ℕ) → InAt any_stage p j node
    → InAt any_stage p j (gives_from k head node)
gives_stay k None node p j there = there
gives_stay k (Some value) node p j there =
    let block = node.block in
    let given = gives k block.exits in
    let head = head_of block.exits in
    record {
      port = subst (λ (count : ℕ). p < count) (sym (length_back given block.copies block.kind head block.ports)) there.port;
      place =
          subst (λ (port : PortState). j < length port.ends)
          (sym (port_back given block.copies block.kind head block.ports p there.port)) there.place;
      stands = refl;
    }

out_stays : (result : Value → Result (List Value) ℕ) (k : ℕ) (next : Move) (node : NodeState) (p j : ℕ)
    → InAt any_stage p j node → InAt any_stage p j (called result (out_call k next) node)
out_stays result k (move.Offer id) node p j there = record { port = there.port; place = there.place; stands = refl }
out_stays result k move.Give node p j there = gives_stay k (head_of node.block.exits) node p j there
out_stays result k move.Hold node p j there = record { port = there.port; place = there.place; stands = refl }
out_stays result k move.Deny node p j there = record { port = there.port; place = there.place; stands = refl }
out_stays result k move.Withdraw node p j there = record { port = there.port; place = there.place; stands = refl }
out_stays result k (move.End how) node p j there = record { port = there.port; place = there.place; stands = refl }
out_stays result k _ node p j there = there

-- and when its element goes on over a link
copied_stays : (call : CopyCall) (node : NodeState) (p j : ℕ) → InAt any_stage p j node → InAt any_stage p j (copies_by call node)
copied_stays call node p j there =
    let change = gives_room (copies_weight node.block.copies - copies_weight (after_copy call node.block.copies)) in
    record {
      port = subst (λ (count : ℕ). p < count) (sym (length-map node.block.ports change)) there.port;
      place =
          subst (λ (port : PortState). j < length port.ends) (sym (port_of_map change node.block.ports p there.port)) there.place;
      stands = refl;
    }

copy_stays : (result : Value → Result (List Value) ℕ) (k : ℕ) (next : Move) (node : NodeState) (p j : ℕ)
    → InAt any_stage p j node → InAt any_stage p j (called result (copy_call k next) node)
copy_stays result k (move.Offer id) node p j there = copied_stays (CopyCall.offer k) node p j there
copy_stays result k move.Give node p j there = copied_stays (CopyCall.give k) node p j there
copy_stays result k move.Hold node p j there = copied_stays (CopyCall.hold k) node p j there
copy_stays result k move.Withdraw node p j there = copied_stays (CopyCall.withdraw k) node p j there
copy_stays result k (move.End how) node p j there = copied_stays (CopyCall.end_link k how) node p j there
copy_stays result k _ node p j there = there

exit_stays : (result : Value → Result (List Value) ℕ) (k : ℕ) (next : Move) (node : NodeState) (p j : ℕ) (sharing : Bool)
    → InAt any_stage p j node → InAt any_stage p j (called result (cond sharing (out_call k next) (copy_call k next)) node)
exit_stays result k next node p j true there = out_stays result k next node p j there
exit_stays result k next node p j false there = copy_stays result k next node p j there

-- so do all ends of links out of it when it takes
held_stay : (p k : ℕ) (hand : Option Value) (node : NodeState) → exit_count (holds_in p k hand node) ≡ exit_count node
held_stay p k None node = refl
held_stay p k (Some value) node = refl

first_stays : (first : Option Value) (node : NodeState) → exit_count (with_block (copies_next first node.block) node) ≡ exit_count node
first_stays None node = refl
first_stays (Some value) node =
    ap (cond (is_one_taker node.block.kind) (length node.block.exits.ends)) (length-map node.block.copies.ends (takes_up value))

takes_stay : (p k : ℕ) (hand : Option Value) (node : NodeState) → exit_count (takes_in p k hand node) ≡ exit_count node
takes_stay p k hand node =
    let held = holds_in p k hand node in
    let kept = held_stay p k hand node in
    taken_keeps (λ new. exit_count (with_block new held) ≡ exit_count node) held.block kept
    (λ at_once. first_stays (first_of (held_by held.block)) held ∙ kept)

opens_stay : (result : Value → Result (List Value) ℕ) (p k : ℕ) (slot : Option Value) (node : NodeState)
    → exit_count (called result (in_call p k slot move.Open) node) ≡ exit_count node
opens_stay result p k None node = refl
opens_stay result p k (Some value) node = refl

in_stays : (result : Value → Result (List Value) ℕ) (p k : ℕ) (slot : Option Value) (next : Move) (node : NodeState)
    → exit_count (called result (in_call p k slot next) node) ≡ exit_count node
in_stays result p k slot move.Want node = refl
in_stays result p k slot move.TurnDown node = refl
in_stays result p k slot move.Postpone node = refl
in_stays result p k slot move.Refuse node = refl
in_stays result p k slot move.Consume node = refl
in_stays result p k slot move.Open node = opens_stay result p k slot node
in_stays result p k slot move.Close node = takes_stay p k (hand_at p k node) node
in_stays result p k slot _ node = refl

module _ (makes : ℕ → Value → Result (List Value) ℕ) (next : Move) where
  pub target_stays : (source : LinkSource) (k : ℕ) (target : LinkTarget) (j : ℕ) (net : NetState)
      → TargetIsThere net target j → TargetIsThere (source_moved makes next source k net) target j
  target_stays (Input b) k Exit j net there = there
  target_stays (Block s) k Exit j net there = there
  target_stays (Input b) k (Port t p) j net there = there
  target_stays (Block s) k (Port t p) j net there =
      let moved = called (makes s) (source_call (node_at net s).block.kind k next) (node_at net s) in (
        subst (λ (count : ℕ). t < count) (sym (length-set net.nodes s moved)) there.0,
        element_set (λ _ (node : NodeState). InAt any_stage p j node) net.nodes s t moved no_node
            (λ same. exit_stays (makes s) k next (node_at net s) p j (is_one_taker (node_at net s).block.kind)
            (subst (λ (n : ℕ). InAt any_stage p j (node_at net n)) same there.1)) there.1,
      )

  pub source_stays : (target : LinkTarget) (j : ℕ) (slot : Option Value) (source : LinkSource) (k : ℕ) (net : NetState)
      → SourceIsThere net source k → SourceIsThere (target_moved makes next slot target j net) source k
  source_stays Exit j slot (Input b) k net there = there
  source_stays Exit j slot (Block s) k net there = there
  source_stays (Port t p) j slot (Input b) k net there = there
  source_stays (Port t p) j slot (Block s) k net there =
      let moved = called (makes t) (in_call p j slot next) (node_at net t) in (
        subst (λ (count : ℕ). s < count) (sym (length-set net.nodes t moved)) there.0,
        element_set (λ _ (node : NodeState). k < exit_count node) net.nodes t s moved no_node
            (λ same. subst (λ (count : ℕ). k < count) (sym (in_stays (makes t) p j slot next (node_at net t)))
            (subst (λ (n : ℕ). k < exit_count (node_at net n)) same there.1)) there.1,
      )

  pub source_lines : (source : LinkSource) (k : ℕ) (net : NetState) → (source_moved makes next source k net).lines ≡ net.lines
  source_lines (Block s) k net = refl
  source_lines (Input b) k net = refl

-- and so does a look of a target
pub source_there_still : (makes : ℕ → Value → Result (List Value) ℕ) (phase : Phase) (target : LinkTarget) (j : ℕ) (source : LinkSource) (k : ℕ)
    (net : NetState) → SourceIsThere net source k → SourceIsThere (target_looked makes phase target j net) source k
source_there_still makes phase Exit j (Input b) k net there = there
source_there_still makes phase Exit j (Block s) k net there = there
source_there_still makes phase (Port t p) j (Input b) k net there = there
source_there_still makes phase (Port t p) j (Block s) k net there =
    let looked = called (makes t) (Some (NodeCall.look_in p j phase)) (node_at net t) in (
      subst (λ (count : ℕ). s < count) (sym (length-set net.nodes t looked)) there.0,
      element_set (λ _ (node : NodeState). k < exit_count node) net.nodes t s looked no_node
          (λ same. subst (λ (n : ℕ). k < exit_count (node_at net n)) same there.1) there.1,
    )

pub lines_still : (makes : ℕ → Value → Result (List Value) ℕ) (phase : Phase) (target : LinkTarget) (j : ℕ) (net : NetState)
    → (target_looked makes phase target j net).lines ≡ net.lines
lines_still makes phase Exit j net = refl
lines_still makes phase (Port t p) j net = refl

-- a change of a line leaves all ends
pub source_beside : (l : ℕ) (line : LinkState) (source : LinkSource) (k : ℕ) (net : NetState) → SourceIsThere net source k
    → SourceIsThere (with_line l line net) source k
source_beside l line (Block s) k net there = there
source_beside l line (Input b) k net there = there

pub target_beside : (l : ℕ) (line : LinkState) (target : LinkTarget) (k : ℕ) (net : NetState) → TargetIsThere net target k
    → TargetIsThere (with_line l line net) target k
target_beside l line (Port t p) k net there = there
target_beside l line Exit k net there = there

-- blocks that make nothing of anything: what a move leaves is told whatever they make
pub nothing_made : ℕ → Value → Result (List Value) ℕ
nothing_made b value = Ok []
