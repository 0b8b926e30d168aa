-- What becomes of a round when a message is taken out of its slot, or is turned down: an end stands elsewhere, and nothing else.
use Rattle.std.proofs.Common.{◌≡◌, ℕ, ◌<◌, not, true, false, List, length, get_or, set, Some, is_none, refl, ap, sym, ◌∙◌, subst, arith}
use Rattle.std.proofs.lemmas.List.{length-set}
use Rattle.flow_value.specs.declared.value.Value.{Value}
use Rattle.flow_link.specs.declared.stage.TargetStage.{TargetStage}
use Rattle.flow_link.specs.declared.stage.TargetStage.TheVariants.{Free, Posted, Arrived, Hand}
use Rattle.flow_intake.specs.Port.{EndState, PortState, fresh_end, stage_in, stage_at, coming, count_at, is_coming}
use Rattle.flow_intake.specs.Calls.{first_of, message_of}
use Rattle.flow_intake.proofs.CountsOfEnds.{count_same}
use Rattle.flow_group.specs.declared.round.RoundStep.{RoundStep}
use Rattle.flow_group.specs.declared.round.RoundStep.TheVariants as steps
use Rattle.flow_group.specs.Round.{is_asked, is_asking, is_taken, port_in}
use Rattle.flow_group.specs.RoundLaw.{PortInRound, RoundLaw, takes_freely}
use Rattle.flow_group.proofs.RoundKeeps.{each_stage, each_port, all_there_set, there_at}
use Rattle.flow_intake.specs.Calls.{is_posted, is_arrived, opens, turns_down}
use Rattle.flow_group.proofs.RoundMoves.{level_same, none_comes_same}

-- what an end may become that comes, asks and is taken as before
record Alike (before after : TargetStage) : Type 0 where
  free : takes_freely before ≡ false → takes_freely after ≡ false
  asked : is_asked after ≡ true → is_asked before ≡ true
  asking : is_asking before ≡ false → is_asking after ≡ false
  taken : is_taken after ≡ true → is_taken before ≡ true
  comes : is_coming after ≡ is_coming before

opened_alike : (stage : TargetStage) (i : ℕ) → is_arrived stage ≡ true → Alike stage (Hand i)
opened_alike (Arrived j) i e = record { free = λ _. refl; asked = λ e. cc; asking = λ _. refl; taken = λ _. refl; comes = refl }
opened_alike stage i e = absurd (cc)

turned_alike : (stage : TargetStage) → is_posted stage ≡ true → Alike stage Free
turned_alike (Posted j) e = record { free = λ _. refl; asked = λ e. cc; asking = λ _. refl; taken = λ e. cc; comes = refl }
turned_alike stage e = absurd (cc)

module _ (step : RoundStep) (ports : List PortState) (took : ℕ → ℕ) (law : RoundLaw step ports took)
    (p k : ℕ) (here : p < length ports) (place : k < length (port_in ports p).ends) where
  abbrev old : PortState
  old = port_in ports p

  old_law : PortInRound step old
  old_law = law.each p here

  module _ (now : PortState) (end : EndState) (ends_are : now.ends ≡ set old.ends k end) (queue_is : now.queue ≡ old.queue)
      (alike : Alike (stage_at k old) end.stage) where
    coming_same : coming now ≡ coming old
    coming_same = ap (count_at is_coming) ends_are ∙ count_same is_coming old.ends k end place (sym alike.comes)

    on_ends : (P : List EndState → Type 0) → P (set old.ends k end) → P now.ends
    on_ends P holds = subst P (sym ends_are) holds

    port_now : PortInRound step now
    port_now = record {
      freely = on_ends (λ ends. (j : ℕ) → j < length ends → takes_freely (stage_in j ends) ≡ false)
          (each_stage (λ j stage. takes_freely stage ≡ false) old.ends k end place (alike.free (old_law.freely k place)) (λ j l other. old_law.freely j l));
      front = on_ends (λ ends. (j : ℕ) → j < length ends → is_asked (stage_in j ends) ≡ true → first_of now.queue ≡ Some j)
          (each_stage (λ j stage. is_asked stage ≡ true → first_of now.queue ≡ Some j) old.ends k end place
          (λ e. ap first_of queue_is ∙ old_law.front k place (alike.asked e))
          (λ j l other e. ap first_of queue_is ∙ old_law.front j l e));
      one = let same = coming_same in let most = old_law.one in omega (arith, same, most);
      taken = on_ends (λ ends. (j : ℕ) → j < length ends → is_taken (stage_in j ends) ≡ true → step ≡ steps.Claims)
          (each_stage (λ j stage. is_taken stage ≡ true → step ≡ steps.Claims) old.ends k end place
          (λ e. old_law.taken k place (alike.taken e)) (λ j l other. old_law.taken j l));
      none_asked = λ is. on_ends (λ ends. (j : ℕ) → j < length ends → is_asking (stage_in j ends) ≡ false)
          (each_stage (λ j stage. is_asking stage ≡ false) old.ends k end place (alike.asking (old_law.none_asked is k place))
          (λ j l other. old_law.none_asked is j l));
    }

    coming_at : (q : ℕ) → q < length (set ports p now) → coming (port_in (set ports p now) q) ≡ coming (port_in ports q)
    coming_at = each_port (λ q x. coming x ≡ coming (port_in ports q)) ports p now here coming_same (λ q l other. refl)

    alike_keeps : RoundLaw step (set ports p now) took
    alike_keeps = record {
      each = each_port (λ q x. PortInRound step x) ports p now here port_now (λ q l other. law.each q l);
      under_way = λ not. none_comes_same ports p now here coming_same ∙ law.under_way not;
      there = λ is some.
          let all = law.there is (sym (none_comes_same ports p now here coming_same) ∙ some) in
          all_there_set ports p now all (ap (λ (queue : List ℕ). not (is_none (first_of queue))) queue_is ∙ there_at ports p here all);
      level = λ q r ql rl.
          level_same step (port_in (set ports p now) q) (port_in ports q) (took q) (coming_at q ql)
          ∙ law.level q r (omega (arith, ql, length-set ports p now)) (omega (arith, rl, length-set ports p now))
          ∙ sym (level_same step (port_in (set ports p now) r) (port_in ports r) (took r) (coming_at r rl));
    }

  pub open_keeps : (value : Value) → is_arrived (stage_at k old) ≡ true → RoundLaw step (set ports p (opens k value old)) took
  open_keeps value arrived =
      alike_keeps (opens k value old)
      (record (get_or old.ends k (fresh_end 0)) { stage = Hand (message_of (stage_at k old)); hand = Some value }) refl refl
      (opened_alike (stage_at k old) (message_of (stage_at k old)) arrived)

  pub turn_down_keeps : is_posted (stage_at k old) ≡ true → RoundLaw step (set ports p (turns_down k old)) took
  turn_down_keeps posted =
      alike_keeps (turns_down k old) (record (get_or old.ends k (fresh_end 0)) { stage = Free }) refl refl
      (turned_alike (stage_at k old) posted)
