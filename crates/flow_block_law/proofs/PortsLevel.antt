-- The ports of a join that reserves take together: none is more than one message ahead of another, and none is where it has ended.
use Rattle.std.proofs.Common.{◌≡◌, ℕ, suc, ◌+◌, ◌<◌, ◌≤◌, ◌||◌, Bool, true, false, List, [], ◌∷◌, length, Result, refl, sym, ◌∙◌, arith}
use Rattle.flow_value.specs.declared.value.Value.{Value}
use Rattle.flow_link.specs.Layout.{Layout}
use Rattle.flow_link.specs.Plan.{block_in, is_reserving}
use Rattle.flow_link.specs.Trace.{took_at, has_complete, is_faulted, is_done, has_ended}
use Rattle.flow_intake.specs.Port.{PortState, coming, is_coming, stage_at}
use Rattle.flow_group.specs.Round.{none_comes}
use Rattle.flow_group.proofs.RoundStays.{levels_tell}
use Rattle.flow_block.specs.Block.{port_in, port_at}
use Rattle.flow_block.specs.Node.{NodeState}
use Rattle.flow_block_law.specs.NodeLaw.{NodeLaw}
use Rattle.flow_block_law.proofs.NothingComes.{none_counted}

all_none : (ports : List PortState) → ((p : ℕ) → p < length ports → coming (port_in ports p) ≡ 0) → none_comes ports ≡ true
all_none [] none = refl
all_none (port ∷ ports) none = rw (none 0 (omega arith), all_none ports (λ p there. none (suc p) (omega (arith, there)))) refl

ended_by : (completed faulted done : Bool) → (faulted || done) ≡ true → (completed || faulted || done) ≡ true
ended_by true faulted done e = refl
ended_by false true done e = refl
ended_by false false true e = refl
ended_by false false false e = absurd (cc)

module _ {W : Type 0} (layout : Layout W) (meaning : ℕ → Value → Result (List Value) ℕ) (b : ℕ) (node : NodeState)
    (law : NodeLaw layout meaning b node) where
  abbrev took : ℕ → ℕ
  took p = length (took_at p node.journal)

  not_coming : (p : ℕ) → p < length node.block.ports → has_ended p node.journal ≡ true → coming (port_at p node.block) ≡ 0
  not_coming p there ended = none_counted (port_at p node.block).ends (λ k small. by k small (is_coming (stage_at k (port_at p node.block))) refl)
    where
      by : (k : ℕ) → k < length (port_at p node.block).ends → (comes : Bool) → is_coming (stage_at k (port_at p node.block)) ≡ comes
          → is_coming (stage_at k (port_at p node.block)) ≡ false
      by k small false is = is
      by k small true is =
          let still = ((law.ports p there).each k small).coming is in
          absurd (let wrong : true ≡ false = sym ended ∙ sym (law.ends.ended_is p there) ∙ still in cc)

  module _ (reserving : is_reserving (block_in layout.blocks b) ≡ true) where
    pub is_near : (p q : ℕ) → p < length node.block.ports → q < length node.block.ports → took p ≤ took q + 1
    is_near p q low_p low_q = levels_tell.near node.round.step node.block.ports took (law.round.in_round reserving).law p q low_p low_q

    pub level_at_end : (is_faulted node.journal || is_done node.journal) ≡ true → (p q : ℕ) → p < length node.block.ports
        → q < length node.block.ports → took p ≡ took q
    level_at_end over p q low_p low_q =
        levels_tell.still node.round.step node.block.ports took (law.round.in_round reserving).law
        (all_none node.block.ports
        (λ r there. not_coming r there
        (ended_by (has_complete r node.journal) (is_faulted node.journal) (is_done node.journal) over)))
        p q low_p low_q
