-- A node that receives a message in one call: its port has received it, and its journal says so.
use Rattle.std.proofs.Common.{◌≡◌, ℕ, ◌+◌, ◌<◌, ◌≤◌, true, false, List, length, Option, Some, None, refl, sym, ap, ◌∙◌, subst, arith}
use Rattle.std.proofs.lemmas.List.{get_or-set_same, set-set, length-set}
use Rattle.flow_value.specs.declared.value.Value.{Value}
use Rattle.flow_link.specs.declared.phase.Phase.TheVariants.{Offered, Given}
use Rattle.flow_link.specs.declared.stage.TargetStage.{TargetStage}
use Rattle.flow_link.specs.declared.stage.TargetStage.TheVariants as stage
use Rattle.flow_link.specs.declared.trace.Mark.TheVariants.{Took}
use Rattle.flow_intake.specs.Port.{EndState, PortState, fresh_end, fresh_port, end_in, link_in, hand_in}
use Rattle.flow_intake.specs.Calls.{put_stage, put_hand, wants, opens, closes, looks}
use Rattle.flow_intake.specs.Receives.{takes_at_once, receives}
use Rattle.flow_intake.proofs.ReceivesAtOnce.{takes_tells, received_at}
use Rattle.flow_block.specs.Block.{BlockState, port_at, with_port, copies_taken}
use Rattle.flow_block.specs.JournalFits.{marks_due, port_due}
use Rattle.flow_block.specs.Node.{NodeState, with_block, marks, takes_in, holds_in, in_link_at, hand_at}
use Rattle.flow_block.specs.Passes.{on_port, takes_hand, receives_on}
use Rattle.flow_block.proofs.MarksFit.{due_with, due_moved}

-- one port changes twice
pub with_twice : (p : ℕ) (first then_on : PortState → PortState) (block : BlockState) → p < length block.ports
    → with_port p then_on (with_port p first block) ≡ with_port p (λ port. then_on (first port)) block
with_twice p first then_on block l =
    rw (
      get_or-set_same block.ports p (first (port_at p block)) (fresh_port None) l,
      set-set block.ports p (first (port_at p block)) (then_on (first (port_at p block))),
    ) refl

on_twice : (p : ℕ) (first then_on : PortState → PortState) (node : NodeState) → p < length node.block.ports
    → on_port p then_on (on_port p first node) ≡ on_port p (λ port. then_on (first port)) node
on_twice p first then_on node l = ap (λ (block : BlockState). with_block block node) (with_twice p first then_on node.block l)

-- an end that stands elsewhere keeps its link
link_stays : (k : ℕ) (to : TargetStage) (ends : List EndState) → k < length ends
    → link_in k (put_stage k to ends) ≡ link_in k ends
link_stays k to ends l = ap (λ (end : EndState). end.link) (get_or-set_same ends k _ (fresh_end 0) l)

opened_link : (k : ℕ) (to : TargetStage) (hand : Option Value) (ends : List EndState) → k < length ends
    → link_in k (put_hand k to hand ends) ≡ link_in k ends
opened_link k to hand ends l = ap (λ (end : EndState). end.link) (get_or-set_same ends k _ (fresh_end 0) l)

opened_hand : (k : ℕ) (to : TargetStage) (hand : Option Value) (ends : List EndState) → k < length ends
    → hand_in k (put_hand k to hand ends) ≡ hand
opened_hand k to hand ends l = ap (λ (end : EndState). end.hand) (get_or-set_same ends k _ (fresh_end 0) l)

-- the port that has opened the message
module _ (k i : ℕ) (value : Value) where
  abbrev wanted : PortState → PortState
  wanted port = wants k (looks k (Offered i) port)

  abbrev opened : PortState → PortState
  opened port = opens k value (looks k (Given i) (wanted port))

  module _ (port : PortState) (l : k < length port.ends) where
    offered_there : k < length (looks k (Offered i) port).ends
    offered_there = rw (length-set port.ends k _) l

    wanted_there : k < length (wanted port).ends
    wanted_there = rw (length-set (looks k (Offered i) port).ends k _) offered_there

    given_there : k < length (looks k (Given i) (wanted port)).ends
    given_there = rw (length-set (wanted port).ends k _) wanted_there

    hand_is : hand_in k (opened port).ends ≡ Some value
    hand_is = opened_hand k _ (Some value) (looks k (Given i) (wanted port)).ends given_there

    link_is : link_in k (opened port).ends ≡ link_in k port.ends
    link_is =
        opened_link k _ (Some value) (looks k (Given i) (wanted port)).ends given_there
        ∙ link_stays k _ (wanted port).ends wanted_there
        ∙ link_stays k _ (looks k (Offered i) port).ends offered_there
        ∙ link_stays k _ port.ends l

module _ (p k i : ℕ) (value : Value) (node : NodeState) (l : p < length node.block.ports)
    (there : k < length (port_at p node.block).ends) where
  abbrev after_open : NodeState
  after_open = on_port p (opened k i value) node

  port_is : port_at p after_open.block ≡ opened k i value (port_at p node.block)
  port_is = get_or-set_same node.block.ports p (opened k i value (port_at p node.block)) (fresh_port None) l

  opened_is : receives_on p k i value node ≡ takes_hand p k after_open
  opened_is =
      ap (λ (n : NodeState). takes_hand p k (on_port p (opens k value) (on_port p (looks k (Given i)) n)))
      (on_twice p (looks k (Offered i)) (wants k) node l)
      ∙ ap (λ (n : NodeState). takes_hand p k (on_port p (opens k value) n))
      (on_twice p (wanted k i value) (looks k (Given i)) node l)
      ∙ ap (λ (n : NodeState). takes_hand p k n)
      (on_twice p (λ port. looks k (Given i) (wanted k i value port)) (opens k value) node l)

  hand_there : hand_at p k after_open ≡ Some value
  hand_there =
      ap (λ (port : PortState). hand_in k port.ends) port_is ∙ hand_is k i value (port_at p node.block) there

  link_there : in_link_at p k after_open ≡ in_link_at p k node
  link_there =
      ap (λ (port : PortState). link_in k port.ends) port_is ∙ link_is k i value (port_at p node.block) there

  abbrev received : NodeState
  received = marks (Took p (in_link_at p k node) value) (with_block (with_port p (receives k i value) node.block) node)

  held_is : holds_in p k (Some value) after_open ≡ received
  held_is =
      ap (λ (link : ℕ). marks (Took p link value) (with_block (with_port p (closes k value) after_open.block) after_open))
      link_there
      ∙ ap (λ (block : BlockState). marks (Took p (in_link_at p k node) value) (with_block block node))
      (with_twice p (opened k i value) (closes k value) node.block l)

  pub receives_is : receives_on p k i value node ≡ with_block (copies_taken received.block) received
  receives_is =
      opened_is
      ∙ ap (λ (hand : Option Value). takes_in p k hand after_open) hand_there
      ∙ ap (λ (new : NodeState). with_block (copies_taken new.block) new) held_is

-- the mark of the message is one that may follow
pub due_receives : (p k i : ℕ) (value : Value) (block : BlockState) → p < length block.ports
    → k < length (port_at p block).ends → takes_at_once k (port_at p block) ≡ true → (port_at p block).ready ≡ true
    → marks_due (with_port p (receives k i value) block) + 1 ≤ marks_due block
due_receives p k i value block l there takes ready =
    let port = port_at p block in
    let free = (takes_tells k port takes).free in
    let after : EndState = record (end_in k port.ends) { stage = stage.Free; hand = None } in
    let one = due_moved k 0 1 after false port there (rw (free, ready) (omega arith)) in
    omega (
      arith,
      due_with p 0 1 (receives k i value) block l (subst (λ (q : PortState). port_due q + 1 ≤ port_due port + 0)
          (sym (received_at k i value port there takes)) one),
    )
