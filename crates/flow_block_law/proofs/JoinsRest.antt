-- A join that reserves, that has nothing left to do and over whose links nothing is under way: it asks for nothing, all its ports hold
-- equally many messages, and an offer that waits lacks a partner or has no room.
use Rattle.std.proofs.Common.{◌≡◌, ℕ, suc, ◌+◌, ◌<◌, ◌||◌, ◌==◌, ◌⊎◌, inl, inr, cond, not, Bool, true, false, List, [], ◌∷◌, length, Option, Some, None, is_some, is_none, Result, refl, ap, sym, ◌∙◌, arith, eq-eqb}
use Rattle.std.proofs.lemmas.Bool.{or_parts}
use Rattle.std.specs.List.{list_all}
use Rattle.flow_value.specs.declared.value.Value.{Value}
use Rattle.flow_link.specs.declared.phase.Move.{Move}
use Rattle.flow_link.specs.declared.phase.Move.TheVariants as move
use Rattle.flow_link.specs.declared.stage.Refusal.{Refusal}
use Rattle.flow_link.specs.declared.stage.TargetStage.{TargetStage}
use Rattle.flow_link.specs.declared.stage.TargetStage.TheVariants.{Postponed, Asking, Holding}
use Rattle.flow_link.specs.Layout.{Layout}
use Rattle.flow_link.specs.Plan.{block_in, is_reserving}
use Rattle.flow_intake.specs.Port.{PortState, coming, has_room, is_below, is_holding, is_queued, stage_at}
use Rattle.flow_intake.specs.Calls.{first_of, is_at, is_postponed, move_at, next_place}
use Rattle.flow_group.specs.declared.round.RoundStep.{RoundStep}
use Rattle.flow_group.specs.declared.round.RoundStep.TheVariants as steps
use Rattle.flow_group.specs.Round.{is_asking, none_comes, none_asking, all_there, all_have_room, has_front, front_stage, stage_from, port_in}
use Rattle.flow_group.specs.RoundLaw.{GoesOn}
use Rattle.flow_group.proofs.RoundGoes.{round_goes}
use Rattle.flow_group.proofs.RoundKeeps.{there_at}
use Rattle.flow_block.specs.Block.{port_at}
use Rattle.flow_block.specs.Node.{NodeState}
use Rattle.flow_block.specs.Planned.{room_of}
use Rattle.flow_block_law.specs.NodeLaw.{NodeLaw}
use Rattle.flow_block_law.specs.NodeRests.{HasNothingToDo, EndsRest, rests_in}
use Rattle.flow_block_law.proofs.HoldersMove.{all_of, same_held, same_load}
use Rattle.flow_block_law.proofs.RoundHolds.{kept, some, front_there, fronts_wait}
use Rattle.flow_block_law.proofs.WishesTell.{moves_in_front, no_own_move, no_round_move}

-- all ports pass, or one does not
record OneFails (test : PortState → Bool) (ports : List PortState) : Type 0 where
  at : ℕ
  here : at < length ports
  fails : test (port_in ports at) ≡ false

all_or_one : (test : PortState → Bool) (ports : List PortState) → (list_all test ports ≡ true) ⊎ OneFails test ports
all_or_one test [] = inl refl
all_or_one test (port ∷ ports) = by (test port) refl (all_or_one test ports)
  where
    by : (passes : Bool) → test port ≡ passes → (list_all test ports ≡ true) ⊎ OneFails test ports
        → (list_all test (port ∷ ports) ≡ true) ⊎ OneFails test (port ∷ ports)
    by false is rest = inr (record { at = 0; here = omega arith; fails = is })
    by true is (inl all) = inl (rw (is, all) refl)
    by true is (inr one) = inr (record { at = suc one.at; here = let low = one.here in omega (arith, low); fails = one.fails })

-- where nothing is under way at an end
asks_not : (stage : TargetStage) → rests_in stage ≡ true → is_asking stage ≡ false
asks_not (Asking i) rest = absurd (cc)
asks_not _ rest = refl

waits_here : (stage : TargetStage) → rests_in stage ≡ true → is_queued stage ≡ true → is_postponed stage ≡ true
waits_here (Postponed i) rest queued = refl
waits_here (Asking i) rest queued = absurd (cc)
waits_here (Holding i) rest queued = absurd (cc)
waits_here _ rest queued = absurd (cc)

-- what waits and is not refused waits at a port that is open
open_there : (k : ℕ) (port : PortState) (stage : TargetStage) → is_postponed stage ≡ true → move_at k port stage ≡ None → is_none port.refusing ≡ true
open_there k port (Postponed i) waits none = by port.refusing refl none
  where
    by : (refusing : Option Refusal) → port.refusing ≡ refusing
        → elim refusing as (λ _. Option Move) [ Some _ ↦ Some move.Refuse | None ↦ cond (is_at k (next_place port)) (Some move.Consume) None ] ≡ None
        → is_none port.refusing ≡ true
    by None is e = ap is_none is
    by (Some why) is e = absurd (cc)
open_there k port _ waits none = absurd (cc)

no_front : (queue : List ℕ) → not (is_none (first_of queue)) ≡ false → queue ≡ []
no_front [] none = refl
no_front (place ∷ queue) none = absurd (cc)

-- with equal loads, one has no room where another has none
room_alike : (capacity : Option ℕ) (load other : ℕ) → (is_some capacity ≡ true → load ≡ other)
    → is_below (load + 0) capacity ≡ is_below (other + 0) capacity
room_alike None load other same = refl
room_alike (Some capacity) load other same = ap (λ (n : ℕ). is_below (n + 0) (Some capacity)) (same refl)

module _ {W : Type 0} (layout : Layout W) (meaning : ℕ → Value → Result (List Value) ℕ) (b : ℕ) (node : NodeState)
    (law : NodeLaw layout meaning b node) (reserving : is_reserving (block_in layout.blocks b) ≡ true)
    (nothing : HasNothingToDo node) (rest : EndsRest node)
    (none : (p : ℕ) → p < length node.block.ports → coming (port_at p node.block) ≡ 0) where
  abbrev ports : List PortState
  ports = node.block.ports

  none_come : none_comes ports ≡ true
  none_come = all_of (λ (port : PortState). coming port == 0) ports (λ p low. eq-eqb (coming (port_in ports p)) 0 (none p low))

  -- so its round has not begun
  asks : node.round.step ≡ steps.Asks
  asks = by node.round.step refl
    where
      by : (step : RoundStep) → node.round.step ≡ step → node.round.step ≡ steps.Asks
      by steps.Asks is = is
      by steps.Releases is =
          let comes = (kept layout meaning b node law reserving).law.under_way
          (λ asks. let wrong : steps.Asks ≡ steps.Releases = sym asks ∙ is in cc) in
          absurd (let wrong : true ≡ false = sym none_come ∙ comes in cc)
      by steps.Claims is =
          let comes = (kept layout meaning b node law reserving).law.under_way
          (λ asks. let wrong : steps.Asks ≡ steps.Claims = sym asks ∙ is in cc) in
          absurd (let wrong : true ≡ false = sym none_come ∙ comes in cc)

  claims_not : node.round.step ≡ steps.Claims → ⊥
  claims_not claims = let wrong : steps.Asks ≡ steps.Claims = sym asks ∙ claims in cc

  pub held_alike : (p q : ℕ) → p < length ports → q < length ports
      → length (port_at p node.block).waiting ≡ length (port_at q node.block).waiting
  held_alike p q low there = same_held layout meaning b node law reserving claims_not p q low there

  -- what is in front of a port
  front_rests : (p : ℕ) → p < length ports → (place : Option ℕ) → first_of (port_at p node.block).queue ≡ place
      → rests_in (stage_from place (port_at p node.block)) ≡ true
  front_rests p low None is = refl
  front_rests p low (Some j) is = rest.ins p j low (front_there layout meaning b node law reserving p j low is)

  quiet : none_asking ports ≡ true
  quiet =
      all_of (λ (port : PortState). not (is_asking (front_stage port))) ports
      (λ p low. ap not (asks_not (front_stage (port_at p node.block)) (front_rests p low (first_of (port_at p node.block).queue) refl)))

  -- a port with an offer in front is open, or it would refuse that
  open_at : (p : ℕ) → p < length ports → (place : Option ℕ) → first_of (port_at p node.block).queue ≡ place
      → not (is_none place) ≡ true → is_none (port_at p node.block).refusing ≡ true
  open_at p low None is there = absurd (cc)
  open_at p low (Some j) is there =
      let port = port_at p node.block in
      let small = front_there layout meaning b node law reserving p j low is in
      let queued = fronts_wait layout meaning b node law reserving p j low is in
      open_there j port (stage_at j port) (waits_here (stage_at j port) (rest.ins p j low small) queued)
      (no_own_move p j node (nothing.ins p j low small))

  -- no round goes on by itself, and none asks
  stays : GoesOn node.round ports → ⊥
  stays (GoesOn.moves q j next low e) =
      let front = moves_in_front q j node.round ports next e in
      let there = front_there layout meaning b node law reserving q j low front in
      let wrong : Some next ≡ None = sym e ∙ no_round_move q j node (nothing.ins q j low there) in
      cc
  stays (GoesOn.waits q low asking) =
      let not_asking = asks_not (front_stage (port_at q node.block)) (front_rests q low (first_of (port_at q node.block).queue) refl) in
      let wrong : true ≡ false = sym asking ∙ not_asking in
      cc

  abbrev LacksAnOffer : Type 0
  LacksAnOffer = (q : ℕ) × (q < length ports) × ((port_at q node.block).queue ≡ [])

  module _ (p k : ℕ) (low : p < length ports) (small : k < length (port_at p node.block).ends) where
    full_as : (q : ℕ) → q < length ports → has_room (port_at q node.block) ≡ false → has_room (port_at p node.block) ≡ false
    full_as q there full =
        let capacity = room_of (block_in layout.blocks b) in
        let here = none p low in
        let other = none q there in
        let same = room_alike capacity (port_at p node.block).load (port_at q node.block).load
        (λ bounded. same_load layout meaning b node law reserving claims_not bounded p q low there) in
        ap (λ (n : ℕ). is_below ((port_at p node.block).load + n) (port_at p node.block).capacity) here
        ∙ ap (is_below ((port_at p node.block).load + 0)) (law.shape.ports p low).capacity
        ∙ same
        ∙ ap (is_below ((port_at q node.block).load + 0)) (sym (law.shape.ports q there).capacity)
        ∙ ap (λ (n : ℕ). is_below ((port_at q node.block).load + n) (port_at q node.block).capacity) (sym other)
        ∙ full

    full_or_starts : all_there ports ≡ true
        → (all_have_room ports ≡ true) ⊎ OneFails (λ (port : PortState). is_holding (front_stage port) || has_room port) ports
        → has_room (port_at p node.block) ≡ false
    full_or_starts there (inl room) =
        let going = all_of (λ (port : PortState). is_none port.refusing) ports
        (λ q near. open_at q near (first_of (port_at q node.block).queue) refl (there_at ports q near there)) in
        absurd (stays (round_goes.starter node.round ports (some layout meaning b node law reserving p k low small)
        (fronts_wait layout meaning b node law reserving) asks (omega (arith, low)) none_come quiet there going room))
    full_or_starts there (inr one) =
        full_as one.at one.here
        (or_parts (is_holding (front_stage (port_in ports one.at))) (has_room (port_in ports one.at)) one.fails).1

    -- an offer that waits has no room, or a port lacks one
    pub lacks_or_full : LacksAnOffer ⊎ (has_room (port_at p node.block) ≡ false)
    lacks_or_full = elim (all_or_one has_front ports) [
      | inl there ↦
          inr (full_or_starts there (all_or_one (λ (port : PortState). is_holding (front_stage port) || has_room port) ports))
      | inr one ↦ inl (one.at, one.here, no_front (port_in ports one.at).queue one.fails)
    ]
