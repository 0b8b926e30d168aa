-- Where nothing waits and nothing is under way, a round is in order.
use Rattle.std.proofs.Common.{◌≡◌, ℕ, zero, suc, ◌<◌, cond, Bool, true, false, List, [], ◌∷◌, length, refl, ap, sym, ◌∙◌, arith}
use Rattle.std.proofs.lemmas.Bool.{and_parts}
use Rattle.flow_value.specs.declared.value.Value.{Value}
use Rattle.flow_link.specs.declared.stage.TargetStage.{TargetStage}
use Rattle.flow_link.specs.declared.stage.TargetStage.TheVariants.{Free, Offered, Posted, Refused, Ended}
use Rattle.flow_link.specs.Lists.{is_empty}
use Rattle.flow_intake.specs.Port.{EndState, PortState, stage_in, stage_at, coming, count_at, is_coming, is_owed}
use Rattle.flow_intake.specs.PortLaw.{is_in}
use Rattle.flow_intake.proofs.CountsOfEnds.{count_there}
use Rattle.flow_group.specs.declared.round.RoundStep.TheVariants as steps
use Rattle.flow_group.specs.declared.round.Source.{Source}
use Rattle.flow_group.specs.Round.{RoundState, port_in, none_comes, is_asked, is_asking, is_taken}
use Rattle.flow_group.specs.RoundLaw.{RoundLaw, PortInRound, takes_freely}
use Rattle.flow_group.proofs.RoundGoes.{pass_at}
use Rattle.flow_block.specs.JournalFits.{ports_due}
use Rattle.flow_block.specs.Peeks.{holds_nothing}
use Rattle.flow_kinds.specs.ReservingJoin.{none_queued}
use Rattle.flow_kinds.specs.RoundOrder.{took_at, RoundFits}
use Rattle.flow_kinds.proofs.RoundFrames.{none_of, none_in_turn}

-- what a stage is for which no memory is set aside
record IsIdle (stage : TargetStage) : Type 0 where
  freely : takes_freely stage ≡ false
  asked : is_asked stage ≡ false
  asking : is_asking stage ≡ false
  taken : is_taken stage ≡ false

idle_is : (stage : TargetStage) → is_owed stage ≡ false → IsIdle stage
idle_is Free e = record { freely = refl; asked = refl; asking = refl; taken = refl }
idle_is (Offered i) e = record { freely = refl; asked = refl; asking = refl; taken = refl }
idle_is (Posted i) e = record { freely = refl; asked = refl; asking = refl; taken = refl }
idle_is (Refused why) e = record { freely = refl; asked = refl; asking = refl; taken = refl }
idle_is (Ended how) e = record { freely = refl; asked = refl; asking = refl; taken = refl }
idle_is stage e = absurd (cc)

never : {P : Type 0} (b : Bool) → b ≡ false → b ≡ true → P
never b refuted shown = absurd (let e : false ≡ true = sym refuted ∙ shown in cc)

none_owed : (ends : List EndState) → count_at is_owed ends ≡ 0 → (k : ℕ) → k < length ends → is_owed (stage_in k ends) ≡ false
none_owed ends none k l = by (is_owed (stage_in k ends)) refl
  where
    by : (b : Bool) → is_owed (stage_in k ends) ≡ b → is_owed (stage_in k ends) ≡ false
    by false e = e
    by true e =
        let counted = count_there is_owed ends k l in
        let one : ◌≡◌ {A = ℕ} (cond (is_owed (stage_in k ends)) 1 0) 1 = ap (λ (b : Bool). cond {A = ℕ} b 1 0) e in
        absurd (omega (arith, counted, one, none))

none_coming : (ends : List EndState) → count_at is_owed ends ≡ 0 → count_at is_coming ends ≡ 0
none_coming [] none = refl
none_coming (end ∷ ends) none =
    let rest = none_coming ends (omega (arith, none)) in
    let here = here_none end.stage (omega (arith, none)) in
    omega (arith, rest, here)
  where
    here_none : (stage : TargetStage) → ◌≡◌ {A = ℕ} (cond (is_owed stage) 1 0) 0 → ◌≡◌ {A = ℕ} (cond (is_coming stage) 1 0) 0
    here_none Free e = refl
    here_none (Offered i) e = refl
    here_none (Posted i) e = refl
    here_none (Refused why) e = refl
    here_none (Ended how) e = refl
    here_none stage e = absurd (cc)

due_at : (ports : List PortState) → ports_due ports ≡ 0 → (p : ℕ) → p < length ports → count_at is_owed (port_in ports p).ends ≡ 0
due_at [] none p l = absurd (omega (arith, l))
due_at (port ∷ ports) none zero l = omega (arith, none)
due_at (port ∷ ports) none (suc p) l = due_at ports (omega (arith, none)) p (omega (arith, l))

waiting_at : (ports : List PortState) → holds_nothing ports ≡ true → (p : ℕ) → p < length ports → length (port_in ports p).waiting ≡ 0
waiting_at [] none p l = absurd (omega (arith, l))
waiting_at (port ∷ ports) none zero l = nothing port.waiting (and_parts (is_empty port.waiting) (holds_nothing ports) none).0
  where
    nothing : (values : List Value) → is_empty values ≡ true → length values ≡ 0
    nothing [] e = refl
    nothing (value ∷ values) e = absurd (cc)
waiting_at (port ∷ ports) none (suc p) l =
    waiting_at ports (and_parts (is_empty port.waiting) (holds_nothing ports) none).1 p (omega (arith, l))

module _ (sources : List Source) (ports : List PortState) (empty : holds_nothing ports ≡ true) (due : ports_due ports ≡ 0)
    (unqueued : none_queued ports ≡ true) where
  abbrev fresh : RoundState
  fresh = record { sources = sources; step = steps.Asks }

  comes_not : (p : ℕ) → p < length ports → coming (port_in ports p) ≡ 0
  comes_not p l = none_coming (port_in ports p).ends (due_at ports due p l)

  port_idle : (p : ℕ) → p < length ports → (k : ℕ) → k < length (port_in ports p).ends → IsIdle (stage_at k (port_in ports p))
  port_idle p l k kl = idle_is (stage_at k (port_in ports p)) (none_owed (port_in ports p).ends (due_at ports due p l) k kl)

  port_fresh : (p : ℕ) → p < length ports → PortInRound steps.Asks (port_in ports p)
  port_fresh p l = record {
    freely = λ k kl. (port_idle p l k kl).freely;
    front = λ k kl asked. never (is_asked (stage_at k (port_in ports p))) (port_idle p l k kl).asked asked;
    one = let none = comes_not p l in omega (arith, none);
    taken = λ k kl taken. never (is_taken (stage_at k (port_in ports p))) (port_idle p l k kl).taken taken;
    none_asked = λ is. absurd (let no : steps.Asks ≡ steps.Claims = is in cc);
  }

  law_fresh : RoundLaw steps.Asks ports (took_at ports)
  law_fresh = record {
    each = port_fresh;
    under_way = λ not. absurd (not refl);
    there = λ _ some. never (none_comes ports) some (none_of ports comes_not);
    level = λ p q pl ql. waiting_at ports empty p pl ∙ sym (waiting_at ports empty q ql);
  }

  pub round_fresh : RoundFits fresh ports
  round_fresh = record {
    law = law_fresh;
    turn = none_in_turn sources steps.Asks ports (none_of ports comes_not);
    queues = λ p l k there.
        never_in (port_in ports p).queue k (pass_at (λ (port : PortState). is_empty port.queue) ports p l unqueued) there;
    idle = λ _. comes_not;
  }
    where
      never_in : {P : Type 0} (queue : List ℕ) (k : ℕ) → is_empty queue ≡ true → is_in k queue ≡ true → P
      never_in [] k e there = absurd (cc)
      never_in (i ∷ queue) k e there = absurd (cc)
