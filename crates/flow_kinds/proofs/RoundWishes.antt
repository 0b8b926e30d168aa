-- A wish of a join by hand, its answer, and a message that comes keep its round in order.
use Rattle.std.proofs.Common.{◌≡◌, ℕ, ◌<◌, ◌&&◌, not, Bool, true, false, cond, List, length, set, Option, Some, None, refl, ap, sym, ◌∙◌, subst, arith}
use Rattle.std.proofs.lemmas.List.{set-get_or}
use Rattle.flow_value.specs.declared.value.Value.{Value}
use Rattle.flow_link.specs.declared.phase.Phase.{Phase}
use Rattle.flow_link.specs.declared.phase.Phase.TheVariants as phase
use Rattle.flow_link.specs.declared.stage.Refusal.{Refusal}
use Rattle.flow_link.specs.declared.stage.Refusal.TheVariants.{PortEnded}
use Rattle.flow_link.specs.declared.stage.TargetStage.{TargetStage}
use Rattle.flow_link.specs.declared.stage.TargetStage.TheVariants as target
use Rattle.flow_link.specs.declared.traits.WishAnswer.{WishAnswer}
use Rattle.flow_link.specs.declared.traits.WishAnswer.TheVariants as answer
use Rattle.flow_link.specs.Stage.{target_looks}
use Rattle.flow_link.specs.TargetCalls.{MayNote, Wants, stage_noted}
use Rattle.flow_intake.specs.Port.{PortState, fresh_port, stage_at, is_queued, is_holding}
use Rattle.flow_intake.specs.Calls.{is_front, put_stage, refused_by, queue_after, looks, releases}
use Rattle.flow_intake.specs.ByLink.{place_of, arrives, arrives_at, drops_at}
use Rattle.flow_group.specs.declared.round.RoundStep.{RoundStep}
use Rattle.flow_group.specs.declared.round.RoundStep.TheVariants as steps
use Rattle.flow_group.specs.Round.{RoundState, port_in, has_sources, reserves, none_comes, is_taken, step_after, settles}
use Rattle.flow_group.specs.RoundLaw.{RoundLaw, InTurn, goes_from, takes_freely}
use Rattle.flow_group.proofs.RoundKeeps.{some_comes, front_comes}
use Rattle.flow_group.proofs.RoundMoves.{goes_on}
use Rattle.flow_block.specs.Traits.{port_shown, shown_over, port_into, target_over, holds_at, notes}
use Rattle.flow_block.proofs.TargetStands.{found, not_noted}
use Rattle.flow_block.proofs.TargetMoves.{some_port, leads_there, shown_is, shown_wanted, wanted_there}
use Rattle.flow_kinds.specs.RoundOrder.{took_at, RoundFits}
use Rattle.flow_kinds.specs.Wishes.{front_at, is_gone, fronts_at, loses_front}
use Rattle.flow_kinds.proofs.RoundFrames.{never_in_turn, settled_sources, stays_step, settles_fit}
use Rattle.flow_kinds.proofs.RoundCalls.{look_fits, release_fits, arrive_fits}

-- It settles where nothing has gone

pub settle_nothing : (round : RoundState) (ports : List PortState) → RoundFits round ports → RoundFits (settles false ports round) ports
settle_nothing round ports fits =
    let stays = stays_step round.step (none_comes ports) fits.law.under_way in
    settles_fit round false ports ports fits
    (subst (λ (s : RoundStep). RoundLaw s ports (took_at ports)) (sym stays) fits.law)
    (subst (λ (s : RoundStep). InTurn round.sources s ports) (sym stays) fits.turn)
    fits.queues fits.idle

-- A round that fails gives up what it holds

module _ (round : RoundState) (ports : List PortState) (fits : RoundFits round ports) (p k : ℕ) (here : p < length ports)
    (place : k < length (port_in ports p).ends) (front : front_at p ports ≡ Some k) (held : is_holding (stage_at k (port_in ports p)) ≡ true)
    (some : reserves round ≡ true) (asking : round.step ≡ steps.Asks) where
  abbrev failed : RoundState
  failed = settles true ports round

  comes : none_comes ports ≡ false
  comes =
      some_comes ports p here
      (front_comes (port_in ports p) (Some k) held)

  goes : step_after round.step true (none_comes ports) ≡ steps.Releases
  goes = ap (λ (s : RoundStep). step_after s true (none_comes ports)) asking ∙ ap (λ (b : Bool). step_after steps.Asks true b) comes

  law_failed : RoundLaw (step_after round.step true (none_comes ports)) ports (took_at ports)
  law_failed =
      goes_on round.step true ports (took_at ports) fits.law.each fits.law.level
      (λ _ no. absurd (let e : true ≡ false = no in cc)) (none_comes ports) refl

  fits_failed : RoundFits failed ports
  fits_failed =
      settles_fit round true ports ports fits law_failed
      (subst (λ (s : RoundStep). InTurn round.sources s ports) (sym goes)
      (never_in_turn round.sources steps.Releases ports (λ e. let no : steps.Releases ≡ steps.Asks = e in cc)))
      fits.queues fits.idle

  failed_step : failed.step ≡ steps.Releases
  failed_step =
      ap (λ (b : Bool). (cond b (record round { step = step_after round.step true (none_comes ports) }) round).step) some ∙ goes

  pub fail_fits : RoundFits (settles false (set ports p (releases k (port_in ports p))) failed) (set ports p (releases k (port_in ports p)))
  fail_fits =
      release_fits failed ports fits_failed p k here place (ap has_sources (settled_sources true ports round) ∙ some) failed_step held

-- A wish is answered

and_false : (b : Bool) → (b && false) ≡ false
and_false true = refl
and_false false = refl

and_true : (b : Bool) → (b && true) ≡ b
and_true true = refl
and_true false = refl

-- the end stands as if it had looked at the phase to which the answer led
record Looked (told : WishAnswer) (k : ℕ) (port now : PortState) : Type 0 where
  found : Phase
  is : now ≡ looks k found port
  gone : (is_gone told && is_front k port) ≡ goes_from k port (target_looks (stage_at k port) found)

looked_as : (told : WishAnswer) (k : ℕ) (port : PortState) (stage : TargetStage) (seen : Phase) (after : TargetStage) → stage_at k port ≡ stage
    → target_looks stage seen ≡ after → (now : PortState)
    → now ≡ record port { ends = put_stage k after port.ends; queue = queue_after after k port.queue }
    → ((first : Bool) → (is_gone told && first) ≡ (first && not (is_queued after))) → Looked told k port now
looked_as told k port stage seen after at to now is gone =
    let same : target_looks (stage_at k port) seen ≡ after = ap (λ (s : TargetStage). target_looks s seen) at ∙ to in
    record {
      found = seen;
      is = is ∙ sym (ap (λ (s : TargetStage). record port { ends = put_stage k s port.ends; queue = queue_after s k port.queue }) same);
      gone = gone (is_front k port) ∙ sym (ap (λ (s : TargetStage). is_front k port && not (is_queued s)) same);
    }

held_looks : (k : ℕ) (port : PortState) (stage : TargetStage) → stage_at k port ≡ stage → MayNote answer.Held stage
    → Looked answer.Held k port (holds_at (Some k) port)
held_looks k port (target.Asking i) at may =
    looked_as answer.Held k port (target.Asking i) (phase.Held i) (target.Holding i) at refl (holds_at (Some k) port)
    (ap (λ (s : TargetStage). record port { ends = put_stage k (stage_noted answer.Held s) port.ends }) at) (λ first. sym (and_false first))
held_looks k port stage at may = absurd (grind arith)

dropped_looks : (told : WishAnswer) (k : ℕ) (port : PortState) (stage : TargetStage) → is_gone told ≡ true → stage_at k port ≡ stage
    → target_looks stage phase.Idle ≡ target.Free → Looked told k port (drops_at (Some k) port)
dropped_looks told k port stage gone at to =
    looked_as told k port stage phase.Idle target.Free at to (drops_at (Some k) port) refl
    (λ first. ap (λ (b : Bool). b && first) gone ∙ sym (and_true first))

-- what may be dropped looks at an idle link
denied_idle : (stage : TargetStage) → MayNote answer.NotAvailable stage → target_looks stage phase.Idle ≡ target.Free
denied_idle (target.Consuming i) may = refl
denied_idle (target.Asking i) may = refl
denied_idle stage may = absurd (grind arith)

withdrawn_idle : (stage : TargetStage) → MayNote answer.Withdrawn stage → target_looks stage phase.Idle ≡ target.Free
withdrawn_idle (target.Postponed i) may = refl
withdrawn_idle (target.Consuming i) may = refl
withdrawn_idle (target.Asking i) may = refl
withdrawn_idle stage may = absurd (grind arith)

module _ (round : RoundState) (ports : List PortState) (fits : RoundFits round ports) (link : ℕ) where
  abbrev p : ℕ
  p = port_into link ports

  abbrev port : PortState
  port = port_in ports p

  module _ (told : WishAnswer) (may : MayNote told (target_over ports link)) where
    some : 0 < length ports
    some = some_port ports link (λ never. not_noted told (Some PortEnded) (subst (λ (stage : TargetStage). MayNote told stage) never may))

    here : p < length ports
    here = leads_there ports link some

    shown_may : MayNote told (shown_over port link)
    shown_may = subst (λ (stage : TargetStage). MayNote told stage) (shown_is ports link some) may

    abbrev NoteFits : PortState → Type 0
    NoteFits now = RoundFits (settles (loses_front told link ports) (set ports p now) round) (set ports p now)

    by_look : (k : ℕ) (now : PortState) → place_of link port.ends ≡ Some k → Looked told k port now → NoteFits now
    by_look k now at seen =
        subst NoteFits (sym seen.is)
        (look_fits round ports fits p k here (found link port.ends k at).0 seen.found (loses_front told link ports)
        (ap (λ (place : Option ℕ). is_gone told && fronts_at place port) at ∙ seen.gone))

  note_by : (told : WishAnswer) (may : MayNote told (target_over ports link)) (place : Option ℕ) → place_of link port.ends ≡ place
      → MayNote told (port_shown place port) → RoundFits (settles (loses_front told link ports) (set ports p (notes told link port)) round) (set ports p (notes told link port))
  note_by told may None at shown = absurd (not_noted told port.refusing shown)
  note_by answer.Coming may (Some k) at shown =
      subst (λ (ps : List PortState). RoundFits (settles false ps round) ps) (sym (set-get_or ports p (fresh_port None))) (settle_nothing round ports fits)
  note_by answer.Held may (Some k) at shown =
      subst (λ (place : Option ℕ). NoteFits answer.Held may (holds_at place port)) (sym at)
      (by_look answer.Held may k (holds_at (Some k) port) at (held_looks k port (stage_at k port) refl shown))
  note_by answer.NotAvailable may (Some k) at shown =
      subst (λ (place : Option ℕ). NoteFits answer.NotAvailable may (drops_at place port)) (sym at)
      (by_look answer.NotAvailable may k (drops_at (Some k) port) at
      (dropped_looks answer.NotAvailable k port (stage_at k port) refl refl (denied_idle (stage_at k port) shown)))
  note_by answer.Withdrawn may (Some k) at shown =
      subst (λ (place : Option ℕ). NoteFits answer.Withdrawn may (drops_at place port)) (sym at)
      (by_look answer.Withdrawn may k (drops_at (Some k) port) at
      (dropped_looks answer.Withdrawn k port (stage_at k port) refl refl (withdrawn_idle (stage_at k port) shown)))

  pub noted_round : (told : WishAnswer) → MayNote told (target_over ports link)
      → RoundFits (settles (loses_front told link ports) (set ports p (notes told link port)) round) (set ports p (notes told link port))
  noted_round told may = note_by told may (place_of link port.ends) refl (shown_may told may)

  -- A message comes

  module _ (header : ℕ) (value : Value) (wants : Wants header (target_over ports link)) where
    into_here : p < length ports
    into_here = wanted_there header ports link wants

    never_wants : (why : Option Refusal) → Wants header (refused_by why) → ⊥
    never_wants None wants = wants
    never_wants (Some _) wants = wants

    taken_by : (k : ℕ) → k < length port.ends → (stage : TargetStage) → stage_at k port ≡ stage → Wants header stage → is_taken stage ≡ true
    taken_by k l (target.Claiming i) at mine = refl
    taken_by k l (target.Accepted i) at mine =
        absurd (let no : true ≡ false = sym (ap takes_freely at) ∙ (fits.law.each p into_here).freely k l in cc)
    taken_by k l (target.Consuming i) at mine =
        absurd (let no : true ≡ false = sym (ap takes_freely at) ∙ (fits.law.each p into_here).freely k l in cc)
    taken_by k l stage at mine = absurd (grind arith)

    arrived_by : (place : Option ℕ) → place_of link port.ends ≡ place → Wants header (port_shown place port)
        → RoundFits (settles false (set ports p (arrives_at place value port)) round) (set ports p (arrives_at place value port))
    arrived_by None at mine = absurd (never_wants port.refusing mine)
    arrived_by (Some k) at mine =
        let l = (found link port.ends k at).0 in
        arrive_fits round ports fits p k into_here l value (taken_by k l (stage_at k port) refl mine)

    pub arrived_round : RoundFits (settles false (set ports p (arrives link value port)) round) (set ports p (arrives link value port))
    arrived_round = arrived_by (place_of link port.ends) refl (shown_wanted header ports link wants)
