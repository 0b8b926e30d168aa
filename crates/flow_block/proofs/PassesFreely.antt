-- Where there is no round, the calls by which a node receives a message leave what it receives in one call.
use Rattle.std.proofs.Common.{◌≡◌, ℕ, cond, Bool, false, List, Option, Some, None, Result, refl, ap, ◌∙◌}
use Rattle.flow_value.specs.declared.value.Value.{Value}
use Rattle.flow_link.specs.declared.phase.Phase.TheVariants.{Offered, Given}
use Rattle.flow_intake.specs.Port.{PortState}
use Rattle.flow_intake.specs.Calls.{loses_front, wants, opens, looks}
use Rattle.flow_group.specs.Round.{RoundState, reserves, none_comes, settles, step_after}
use Rattle.flow_block.specs.Block.{port_at}
use Rattle.flow_block.specs.Node.{NodeState, NodeCall, after, goes_round, holds_in, hand_at}
use Rattle.flow_block.specs.Passes.{on_port, takes_hand, receives_on}

settles_none : (gone : Bool) (ports : List PortState) (round : RoundState) → reserves round ≡ false → settles gone ports round ≡ round
settles_none gone ports round none =
    ap (λ (b : Bool). cond b (record round { step = step_after round.step gone (none_comes ports) }) round) none

goes_none : (gone : Bool) (node : NodeState) → reserves node.round ≡ false → goes_round gone node ≡ node
goes_none gone node none = ap (λ (round : RoundState). record node { round = round }) (settles_none gone node.block.ports node.round none)

pub held_round : (p k : ℕ) (hand : Option Value) (node : NodeState) → (holds_in p k hand node).round ≡ node.round
held_round p k None node = refl
held_round p k (Some value) node = refl

module _ (result : Value → Result (List Value) ℕ) (p k i : ℕ) (value : Value) (node : NodeState) (none : reserves node.round ≡ false) where
  abbrev offered : NodeState
  offered = on_port p (looks k (Offered i)) node

  abbrev given : NodeState
  given = on_port p (looks k (Given i)) (on_port p (wants k) offered)

  abbrev opened : NodeState
  opened = on_port p (opens k value) given

  -- the calls one after another, as a network makes them
  abbrev pub by_calls : NodeState
  by_calls =
      after result (NodeCall.close p k) (after result (NodeCall.open_with p k value) (after result (NodeCall.look_in p k (Given i))
      (after result (NodeCall.want p k) (after result (NodeCall.look_in p k (Offered i)) node))))

  pub receives_by_calls : by_calls ≡ receives_on p k i value node
  receives_by_calls =
      let closes = after result (NodeCall.close p k) in
      let opens_it = after result (NodeCall.open_with p k value) in
      let looks_given = after result (NodeCall.look_in p k (Given i)) in
      let wants_it = after result (NodeCall.want p k) in
      ap (λ (x : NodeState). closes (opens_it (looks_given (wants_it x))))
      (goes_none (loses_front k (Offered i) (port_at p node.block)) offered none)
      ∙ ap (λ (x : NodeState). closes (opens_it x))
      (goes_none (loses_front k (Given i) (port_at p (on_port p (wants k) offered).block)) given none)
      ∙ goes_none false (takes_hand p k opened)
      (ap reserves (held_round p k (hand_at p k opened) opened) ∙ none)
