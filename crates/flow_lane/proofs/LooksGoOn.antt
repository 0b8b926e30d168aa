-- A look at one lane after another is a look at all.
use Rattle.std.proofs.Common.{◌≡◌, ◌≢◌, ◌+◌, ◌<◌, ◌≤◌, ℕ, ◌⊎◌, ⊎_elim, inl, inr, length, set, refl, ap, sym, ◌∙◌, subst, arith}
use Rattle.std.proofs.lemmas.Bool.{cases_lt}
use Rattle.std.proofs.lemmas.List.{get_or_past, get_or-set_other, length-set}
use Rattle.flow_lane.specs.BlockLanes.{LanesState, HasLooked, HaveLooked, no_side, side_at}
use Rattle.flow_lane.specs.Items.{JobState}
use Rattle.flow_lane.specs.Sides.{BlockOf}
use Rattle.flow_lane.specs.Views.{is_sent}

same_or_below : (k n : ℕ) → k < n + 1 → (k < n) ⊎ (k ≡ n)
same_or_below k n low = ⊎_elim (λ (less : k < n). inl less) (λ (past : n ≤ k). inr (omega arith)) (cases_lt k n)

module _ {W : Type 0} where
  -- the sides below a number have looked, and the others have not
  pub record LookedBelow (n : ℕ) (before after : LanesState W) : Type 0 where
    pub many : length after.sides ≡ length before.sides
    pub done : (place : ℕ) → place < n → HasLooked (side_at place before) (side_at place after)
    pub rest : (place : ℕ) → n ≤ place → side_at place after ≡ side_at place before
    pub kept : after.kept ≡ before.kept

  pub none_looked : (lanes : LanesState W) → LookedBelow 0 lanes lanes
  none_looked lanes = record { many = refl; done = λ place low. absurd (omega arith); rest = λ place high. refl; kept = refl }

  -- one more side looks
  pub looks_on : (n : ℕ) (first before after : LanesState W) → LookedBelow n first before → HasLooked (side_at n before) (side_at n after)
      → after ≡ record { sides = set before.sides n (side_at n after); kept = before.kept } → LookedBelow (n + 1) first after
  looks_on n first before after below looks is = record {
    many = ap (λ (l : LanesState W). length l.sides) is ∙ length-set before.sides n (side_at n after) ∙ below.many;
    done = λ place low. ⊎_elim
        (λ (less : place < n). subst (λ (s : BlockOf (JobState W)). HasLooked (side_at place first) s) (sym (other place (omega arith))) (below.done place less))
        (λ (same : place ≡ n). subst (λ (k : ℕ). HasLooked (side_at k first) (side_at k after)) (sym same)
        (subst (λ (s : BlockOf (JobState W)). HasLooked s (side_at n after)) (below.rest n (omega arith)) looks))
        (same_or_below place n low);
    rest = λ place high. other place (omega arith) ∙ below.rest place (omega arith);
    kept = ap (λ (l : LanesState W). l.kept) is ∙ below.kept;
  }
    where
      other : (place : ℕ) → place ≢ n → side_at place after ≡ side_at place before
      other place apart = ap (λ (l : LanesState W). side_at place l) is ∙ get_or-set_other before.sides n place (side_at n after) no_side apart

  -- a side that is not there looks at nothing
  past_looks : (side : BlockOf (JobState W)) → side ≡ no_side → HasLooked side side
  past_looks side past = record { looked = λ sent. absurd (let e = ap (λ (s : BlockOf (JobState W)). is_sent s.side.stage) past in cc); still = λ _. refl }

  pub all_looked : (n : ℕ) (before after : LanesState W) → n ≡ length before.sides → LookedBelow n before after → HaveLooked before after
  all_looked n before after many below = record {
    many = below.many;
    each = λ place. ⊎_elim (λ (less : place < n). below.done place less)
        (λ (past : n ≤ place). subst (λ (s : BlockOf (JobState W)). HasLooked (side_at place before) s) (sym (below.rest place past))
        (past_looks (side_at place before) (get_or_past before.sides place no_side (omega arith))))
        (cases_lt place n);
    kept = below.kept;
  }
