-- A join that reserves and that holds a message goes on: it claims, releases or asks for the next one, or waits for the source that
-- it asks. For while it does not claim, all its ports hold equally many messages, so that one has room where another has.
use Rattle.std.proofs.Common.{◌≡◌, ℕ, suc, ◌+◌, ◌<◌, ◌≤◌, ◌||◌, inl, inr, cond, not, Bool, true, false, List, [], ◌∷◌, ◌++◌, length, Option, Some, None, is_some, Result, refl, ap, sym, ◌∙◌, subst, arith, lt-ltb}
use Rattle.std.proofs.lemmas.Bool.{and_from, or_right, or_left, not-true}
use Rattle.std.specs.List.{list_all}
use Rattle.flow_value.specs.declared.value.Value.{Value}
use Rattle.flow_link.specs.declared.stage.TargetStage.{TargetStage}
use Rattle.flow_link.specs.declared.stage.TargetStage.TheVariants.{Holding}
use Rattle.flow_link.specs.Layout.{Layout}
use Rattle.flow_link.specs.LinkOk.{IsWithin}
use Rattle.flow_link.specs.Plan.{block_in, is_reserving}
use Rattle.flow_link.specs.Trace.{gave, took_at}
use Rattle.flow_link.proofs.KindsTell.{kind_tells}
use Rattle.flow_intake.specs.Port.{PortState, coming, has_room, is_below, is_coming, is_holding, stage_at}
use Rattle.flow_intake.proofs.CountsOfEnds.{count_there}
use Rattle.flow_group.specs.declared.round.RoundStep.TheVariants as steps
use Rattle.flow_group.specs.Round.{is_asked, is_asking, is_taken, none_asking, all_have_room, front_stage, stage_from, port_in}
use Rattle.flow_group.specs.RoundLaw.{PortInRound, GoesOn}
use Rattle.flow_group.specs.Tuple.{held_at}
use Rattle.flow_group.proofs.RoundGoes.{round_goes, pass_at}
use Rattle.flow_group.proofs.RoundKeeps.{coming_is}
use Rattle.flow_group.proofs.RoundStays.{levels_tell}
use Rattle.flow_group.proofs.TuplesSay.{tuples_tell}
use Rattle.flow_block.specs.Block.{port_at, is_join, is_batched_join}
use Rattle.flow_block.specs.Node.{NodeState}
use Rattle.flow_block.specs.Planned.{room_of}
use Rattle.flow_block_law.specs.NodeLaw.{NodeLaw}
use Rattle.flow_block_law.proofs.NothingComes.{none_counted}
use Rattle.flow_block_law.proofs.RoundHolds.{kept, some, is_a_join, fronts_wait}

comes_held : (stage : TargetStage) → is_holding stage ≡ true → is_coming stage ≡ true
comes_held (Holding i) e = refl
comes_held stage e = absurd (cc)

pub all_of : (test : PortState → Bool) (ports : List PortState) → ((p : ℕ) → p < length ports → test (port_in ports p) ≡ true)
    → list_all test ports ≡ true
all_of test [] each = refl
all_of test (port ∷ ports) each =
    and_from (test port) (list_all test ports) (each 0 (omega arith)) (all_of test ports (λ p there. each (suc p) (omega (arith, there))))

-- where one port has room for one more, another with the same load has
room_by : (capacity : Option ℕ) (load more here : ℕ) → IsWithin capacity (load + more) → 1 ≤ more
    → (is_some capacity ≡ true → here ≡ load) → is_below (here + 0) capacity ≡ true
room_by None load more here within one same = refl
room_by (Some capacity) load more here within one same =
    let as_much = same refl in lt-ltb (here + 0) capacity (omega (arith, within, one, as_much))

module _ {W : Type 0} (layout : Layout W) (meaning : ℕ → Value → Result (List Value) ℕ) (b : ℕ) (node : NodeState)
    (law : NodeLaw layout meaning b node) (reserving : is_reserving (block_in layout.blocks b) ≡ true) where
  abbrev ports : List PortState
  ports = node.block.ports

  abbrev took : ℕ → ℕ
  took p = length (took_at p node.journal)

  abbrev capacity : Option ℕ
  capacity = room_of (block_in layout.blocks b)

  joins : is_join node.block.kind ≡ true
  joins = is_a_join layout meaning b node law reserving

  held_count : (p : ℕ) → p < length ports
      → took p ≡ length (gave node.journal ++ node.block.exits.left) + length (port_at p node.block).waiting
  held_count p there =
      (tuples_tell.each (length ports) (λ q. took_at q node.journal) (gave node.journal ++ node.block.exits.left) (held_at ports)
      (law.tuples joins) p there).as_many

  pub same_held : (node.round.step ≡ steps.Claims → ⊥) → (p q : ℕ) → p < length ports → q < length ports
      → length (port_at p node.block).waiting ≡ length (port_at q node.block).waiting
  same_held claims_not p q low_p low_q =
      let level : took p ≡ took q =
      levels_tell.same node.round.step ports took (kept layout meaning b node law reserving).law claims_not p q low_p low_q in
      let here = held_count p low_p in
      let there = held_count q low_q in
      omega (arith, level, here, there)

  pub same_load : (node.round.step ≡ steps.Claims → ⊥) → is_some capacity ≡ true → (p q : ℕ) → p < length ports → q < length ports
      → (port_at p node.block).load ≡ (port_at q node.block).load
  same_load claims_not bounded p q low_p low_q =
      let loads = law.load (kind_tells is_join true is_batched_join false refl node.block.kind joins) in
      let here = loads.load p low_p bounded in
      let there = loads.load q low_q bounded in
      let same = same_held claims_not p q low_p low_q in
      omega (arith, here, there, same)

  -- while it asks, nothing comes at a port whose offer in front is neither asked for nor kept
  module _ (asks : node.round.step ≡ steps.Asks) (p : ℕ) (low : p < length ports)
      (not_asked : is_asked (front_stage (port_at p node.block)) ≡ false) where
    abbrev port : PortState
    port = port_at p node.block

    in_round : PortInRound node.round.step port
    in_round = (kept layout meaning b node law reserving).law.each p low

    asked_no : (k : ℕ) → k < length port.ends → is_asked (stage_at k port) ≡ true → ⊥
    asked_no k small asked =
        let front = in_round.front k small asked in
        let here : is_asked (front_stage port) ≡ true = ap (λ (place : Option ℕ). is_asked (stage_from place port)) front ∙ asked in
        let wrong : true ≡ false = sym here ∙ not_asked in
        cc

    taken_no : (k : ℕ) → k < length port.ends → is_taken (stage_at k port) ≡ true → ⊥
    taken_no k small taken = let wrong : steps.Asks ≡ steps.Claims = sym asks ∙ in_round.taken k small taken in cc

    comes_not : (k : ℕ) → k < length port.ends → (comes : Bool) → is_coming (stage_at k port) ≡ comes → is_coming (stage_at k port) ≡ false
    comes_not k small false is = is
    comes_not k small true is = elim (coming_is (stage_at k port) is (in_round.freely k small)) [
      | inl asked ↦ absurd (asked_no k small asked)
      | inr taken ↦ absurd (taken_no k small taken)
    ]

    none_unless_asked : coming port ≡ 0
    none_unless_asked = none_counted port.ends (λ k small. comes_not k small (is_coming (stage_at k port)) refl)

  not_claims : node.round.step ≡ steps.Asks → node.round.step ≡ steps.Claims → ⊥
  not_claims asks claims = let wrong : steps.Asks ≡ steps.Claims = sym asks ∙ claims in cc

  module _ (p k : ℕ) (low : p < length ports) (small : k < length (port_at p node.block).ends)
      (holds : is_holding (stage_at k (port_at p node.block)) ≡ true) where
    one_comes : 1 ≤ coming (port_at p node.block)
    one_comes =
        let counted = count_there is_coming (port_at p node.block).ends k small in
        let one : ◌≡◌ {A = ℕ} (cond (is_coming (stage_at k (port_at p node.block))) 1 0) 1 =
        ap (λ (b : Bool). cond {A = ℕ} b 1 0) (comes_held (stage_at k (port_at p node.block)) holds) in
        omega arith

    room_at : node.round.step ≡ steps.Asks → none_asking ports ≡ true → (q : ℕ) → q < length ports
        → is_holding (front_stage (port_at q node.block)) ≡ false → has_room (port_at q node.block) ≡ true
    room_at asks quiet q there free =
        let port = port_at q node.block in
        let asking = not-true (is_asking (front_stage port)) (pass_at (λ (port : PortState). not (is_asking (front_stage port))) ports q there quiet) in
        let not_asked : is_asked (front_stage port) ≡ false = rw (asking, free) refl in
        let none = none_unless_asked asks q there not_asked in
        let within = subst (λ (room : Option ℕ). IsWithin room ((port_at p node.block).load + coming (port_at p node.block)))
        (law.shape.ports p low).capacity (law.ports p low).room in
        rw (none, (law.shape.ports q there).capacity)
        (room_by capacity (port_at p node.block).load (coming (port_at p node.block)) port.load within one_comes
        (λ bounded. same_load (not_claims asks) bounded q p there low))

    all_room : node.round.step ≡ steps.Asks → none_asking ports ≡ true → all_have_room ports ≡ true
    all_room asks quiet =
        all_of (λ (port : PortState). is_holding (front_stage port) || has_room port) ports
        (λ q there. by q there (is_holding (front_stage (port_at q node.block))) refl)
      where
        by : (q : ℕ) → q < length ports → (held : Bool) → is_holding (front_stage (port_at q node.block)) ≡ held
            → (is_holding (front_stage (port_at q node.block)) || has_room (port_at q node.block)) ≡ true
        by q there true is = or_left (is_holding (front_stage (port_at q node.block))) (has_room (port_at q node.block)) is
        by q there false is =
            or_right (is_holding (front_stage (port_at q node.block))) (has_room (port_at q node.block)) (room_at asks quiet q there is)

    pub holder_moves : GoesOn node.round ports
    holder_moves =
        round_goes.holder node.round ports took (kept layout meaning b node law reserving).law
        (some layout meaning b node law reserving p k low small) (fronts_wait layout meaning b node law reserving) all_room
        p k low small holds
