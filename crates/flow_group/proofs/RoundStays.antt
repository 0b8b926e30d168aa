-- What becomes of a round when neither ends nor queues change, or one end stands elsewhere in its turn; and what the law says of
-- how far the ports are.
use Rattle.std.proofs.Common.{◌≡◌, ℕ, suc, ◌+◌, ◌<◌, ◌≤◌, ◌==◌, ◌&&◌, not, Bool, true, false, List, [], ◌∷◌, length, Some, is_none, refl, ap, sym, ◌∙◌, subst, arith}
use Rattle.flow_intake.specs.Port.{EndState, PortState, stage_in, coming, count_at, is_coming}
use Rattle.flow_intake.specs.Calls.{first_of}
use Rattle.flow_group.specs.declared.round.RoundStep.{RoundStep}
use Rattle.flow_group.specs.declared.round.RoundStep.TheVariants as steps
use Rattle.flow_group.specs.Round.{is_asked, is_asking, is_taken, none_comes, has_front, all_there, port_in}
use Rattle.flow_group.specs.RoundLaw.{PortInRound, RoundLaw, RoundsKept, LevelsTell, SameEnds, level_of, takes_freely}
use Rattle.flow_group.proofs.RoundKeeps.{wishes_kept}
use Rattle.flow_group.proofs.RoundOpens.{open_keeps, turn_down_keeps}
use Rattle.flow_group.proofs.RoundMoves.{look_keeps, refuse_keeps, postpone_keeps, close_keeps, level_same}

-- What leaves ends and queues alone

same_comes : (ports later : List PortState) → length later ≡ length ports → ((p : ℕ) → coming (port_in later p) ≡ coming (port_in ports p))
    → none_comes later ≡ none_comes ports
same_comes [] [] many same = refl
same_comes [] (x ∷ later) many same = absurd (let no : suc (length later) ≡ 0 = many in omega (arith, no))
same_comes (port ∷ ports) [] many same = absurd (let no : 0 ≡ suc (length ports) = many in omega (arith, no))
same_comes (port ∷ ports) (x ∷ later) many same =
    ap (λ (n : ℕ). (n == 0) && none_comes later) (same 0)
    ∙ ap (λ (b : Bool). (coming port == 0) && b) (same_comes ports later (let one : suc (length later) ≡ suc (length ports) = many in omega (arith, one)) (λ p. same (suc p)))

same_there : (ports later : List PortState) → length later ≡ length ports → ((p : ℕ) → (port_in later p).queue ≡ (port_in ports p).queue)
    → all_there later ≡ all_there ports
same_there [] [] many same = refl
same_there [] (x ∷ later) many same = absurd (let no : suc (length later) ≡ 0 = many in omega (arith, no))
same_there (port ∷ ports) [] many same = absurd (let no : 0 ≡ suc (length ports) = many in omega (arith, no))
same_there (port ∷ ports) (x ∷ later) many same =
    ap (λ (queue : List ℕ). not (is_none (first_of queue)) && all_there later) (same 0)
    ∙ ap (λ (b : Bool). has_front port && b) (same_there ports later (let one : suc (length later) ≡ suc (length ports) = many in omega (arith, one)) (λ p. same (suc p)))

same_port : (step : RoundStep) (port later : PortState) → later.ends ≡ port.ends → later.queue ≡ port.queue → PortInRound step port → PortInRound step later
same_port step port later ends queue old = record {
  freely = subst (λ (ends : List EndState). (k : ℕ) → k < length ends → takes_freely (stage_in k ends) ≡ false) (sym ends) old.freely;
  front = subst (λ (ends : List EndState). (k : ℕ) → k < length ends → is_asked (stage_in k ends) ≡ true → first_of later.queue ≡ Some k) (sym ends)
      (λ k l asked. ap first_of queue ∙ old.front k l asked);
  one = subst (λ (ends : List EndState). count_at is_coming ends ≤ 1) (sym ends) old.one;
  taken = subst (λ (ends : List EndState). (k : ℕ) → k < length ends → is_taken (stage_in k ends) ≡ true → step ≡ steps.Claims) (sym ends) old.taken;
  none_asked = λ is. subst (λ (ends : List EndState). (k : ℕ) → k < length ends → is_asking (stage_in k ends) ≡ false) (sym ends) (old.none_asked is);
}

frame_keeps : (step : RoundStep) (ports later : List PortState) (took now : ℕ → ℕ) → RoundLaw step ports took → SameEnds ports later
    → ((p : ℕ) → now p ≡ took p) → RoundLaw step later now
frame_keeps step ports later took now law same as_far =
    let comes = same_comes ports later same.as_many (λ p. ap (count_at is_coming) (same.ends p)) in
    record {
      each = λ p l. same_port step (port_in ports p) (port_in later p) (same.ends p) (same.queue p) (law.each p (near p l));
      under_way = λ not. comes ∙ law.under_way not;
      there = λ is some. same_there ports later same.as_many same.queue ∙ law.there is (sym comes ∙ some);
      level = λ p q pl ql.
          ap (level_of step (port_in later p)) (as_far p)
          ∙ level_same step (port_in later p) (port_in ports p) (took p) (ap (count_at is_coming) (same.ends p))
          ∙ law.level p q (near p pl) (near q ql)
          ∙ sym (level_same step (port_in later q) (port_in ports q) (took q) (ap (count_at is_coming) (same.ends q)))
          ∙ sym (ap (level_of step (port_in later q)) (as_far q));
    }
  where
    near : (p : ℕ) → p < length later → p < length ports
    near p l = let many = same.as_many in omega arith

-- How far the ports are

levels_same : (step : RoundStep) (ports : List PortState) (took : ℕ → ℕ) → RoundLaw step ports took → (step ≡ steps.Claims → ⊥)
    → (p q : ℕ) → p < length ports → q < length ports → took p ≡ took q
levels_same steps.Asks ports took law not p q pl ql = law.level p q pl ql
levels_same steps.Releases ports took law not p q pl ql = law.level p q pl ql
levels_same steps.Claims ports took law not p q pl ql = absurd (not refl)

levels_near : (step : RoundStep) (ports : List PortState) (took : ℕ → ℕ) → RoundLaw step ports took
    → (p q : ℕ) → p < length ports → q < length ports → took p ≤ took q + 1
levels_near steps.Asks ports took law p q pl ql = let same = law.level p q pl ql in omega arith
levels_near steps.Releases ports took law p q pl ql = let same = law.level p q pl ql in omega arith
levels_near steps.Claims ports took law p q pl ql = let same = law.level p q pl ql in let most = (law.each q ql).one in omega arith

levels_still : (step : RoundStep) (ports : List PortState) (took : ℕ → ℕ) → RoundLaw step ports took → none_comes ports ≡ true
    → (p q : ℕ) → p < length ports → q < length ports → took p ≡ took q
levels_still steps.Asks ports took law none p q pl ql = law.level p q pl ql
levels_still steps.Releases ports took law none p q pl ql = law.level p q pl ql
levels_still steps.Claims ports took law none p q pl ql =
    let some = law.under_way (λ e. let no : steps.Claims ≡ steps.Asks = e in cc) in
    absurd (let no : true ≡ false = sym none ∙ some in cc)

pub levels_tell : LevelsTell
levels_tell = record { near = levels_near; same = levels_same; still = levels_still }

pub rounds_kept : RoundsKept
rounds_kept = record {
  wishes = wishes_kept;
  look = λ step ports took law p k here place found. look_keeps step ports took law p k here place found;
  refuse = λ step ports took law p k here place may. refuse_keeps step ports took law p k here place may;
  postpone = λ step ports took law p k here place offered. postpone_keeps step ports took law p k here place offered;
  opened = λ step ports took law p k here place value arrived. open_keeps step ports took law p k here place value arrived;
  turn_down = λ step ports took law p k here place posted. turn_down_keeps step ports took law p k here place posted;
  frame = frame_keeps;
  close = λ step ports took law p k here place value later hand more. close_keeps step ports took law p k here place value later hand more;
}
