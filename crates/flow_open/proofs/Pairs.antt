-- Two lists that stay, that change one after another, and that change at one place.
use Rattle.std.proofs.Common.{◌≡◌, ℕ, ◌<◌, List, length, get_or, set, refl, sym, ap, ◌∙◌, subst, ⊎_elim, arith, get_or-set_other, get_or-set_same}
use Rattle.std.proofs.lemmas.Bool.{cases_order}
use Rattle.std.proofs.lemmas.List.{get_or_default, length-set}
use Rattle.flow_open.specs.Pairs.{EachPair}

module _ {A B : Type 0} (Goes : A → B → A → B → Type 0) where
  pub each_stays : ((a : A) (b : B) → Goes a b a b) → (xs : List A) (ys : List B) → EachPair Goes xs ys xs ys
  each_stays stays xs ys = record {
    count = refl;
    other_count = refl;
    each = λ k a b low other. stays (get_or xs k a) (get_or ys k b);
  }

  pub each_further : ((a₁ a₂ a₃ : A) (b₁ b₂ b₃ : B) → Goes a₁ b₁ a₂ b₂ → Goes a₂ b₂ a₃ b₃ → Goes a₁ b₁ a₃ b₃)
      → (old mid new : List A) (from by to : List B) → EachPair Goes old from mid by → EachPair Goes mid by new to → EachPair Goes old from new to
  each_further further old mid new from by to head tail = record {
    count = tail.count ∙ head.count;
    other_count = tail.other_count ∙ head.other_count;
    each = λ k a b low other.
        further _ _ _ _ _ _ (head.each k a b low other)
        (tail.each k a b (subst (λ (n : ℕ). k < n) (sym head.count) low) (subst (λ (n : ℕ). k < n) (sym head.other_count) other));
  }

  -- what stands at one place goes on, and the rest stays
  at_same : (old mid : List A) (from by : List B) (place : ℕ) (a₁ a₂ : A) (b₁ b₂ : B)
      → ((a₁ a₂ a₃ : A) (b₁ b₂ b₃ : B) → Goes a₁ b₁ a₂ b₂ → Goes a₂ b₂ a₃ b₃ → Goes a₁ b₁ a₃ b₃)
      → EachPair Goes old from mid by → place < length mid → place < length by
      → a₁ ≡ get_or mid place a₁ → b₁ ≡ get_or by place b₁ → Goes a₁ b₁ a₂ b₂
      → (k : ℕ) (a : A) (b : B) → k ≡ place → k < length old → k < length from
      → Goes (get_or old k a) (get_or from k b) (get_or (set mid place a₂) k a) (get_or (set by place b₂) k b)
  at_same old mid from by place a₁ a₂ b₁ b₂ further each low other is_a is_b goes k a b same below beside =
      subst (λ (y : B). Goes (get_or old k a) (get_or from k b) (get_or (set mid place a₂) k a) y)
      (sym (ap (λ (n : ℕ). get_or (set by place b₂) n b) same ∙ get_or-set_same by place b₂ b other))
      (subst (λ (x : A). Goes (get_or old k a) (get_or from k b) x b₂)
      (sym (ap (λ (n : ℕ). get_or (set mid place a₂) n a) same ∙ get_or-set_same mid place a₂ a low))
      (further _ _ _ _ _ _
      (subst (λ (y : B). Goes (get_or old k a) (get_or from k b) a₁ y)
      (ap (λ (n : ℕ). get_or by n b) same ∙ get_or_default by place b b₁ other ∙ sym is_b)
      (subst (λ (x : A). Goes (get_or old k a) (get_or from k b) x (get_or by k b))
      (ap (λ (n : ℕ). get_or mid n a) same ∙ get_or_default mid place a a₁ low ∙ sym is_a)
      (each.each k a b below beside)))
      goes))

  at_other : (old mid : List A) (from by : List B) (place : ℕ) (a₂ : A) (b₂ : B) → EachPair Goes old from mid by
      → (k : ℕ) (a : A) (b : B) → (k ≡ place → ⊥) → k < length old → k < length from
      → Goes (get_or old k a) (get_or from k b) (get_or (set mid place a₂) k a) (get_or (set by place b₂) k b)
  at_other old mid from by place a₂ b₂ each k a b differ below beside =
      subst (λ (y : B). Goes (get_or old k a) (get_or from k b) (get_or (set mid place a₂) k a) y)
      (sym (get_or-set_other by place k b₂ b differ))
      (subst (λ (x : A). Goes (get_or old k a) (get_or from k b) x (get_or by k b)) (sym (get_or-set_other mid place k a₂ a differ))
      (each.each k a b below beside))

  pub each_at : ((a₁ a₂ a₃ : A) (b₁ b₂ b₃ : B) → Goes a₁ b₁ a₂ b₂ → Goes a₂ b₂ a₃ b₃ → Goes a₁ b₁ a₃ b₃)
      → (old mid : List A) (from by : List B) (place : ℕ) (a₁ a₂ : A) (b₁ b₂ : B) → EachPair Goes old from mid by
      → place < length mid → place < length by → a₁ ≡ get_or mid place a₁ → b₁ ≡ get_or by place b₁ → Goes a₁ b₁ a₂ b₂
      → EachPair Goes old from (set mid place a₂) (set by place b₂)
  each_at further old mid from by place a₁ a₂ b₁ b₂ each low other is_a is_b goes = record {
    count = length-set mid place a₂ ∙ each.count;
    other_count = length-set by place b₂ ∙ each.other_count;
    each = λ k a b below beside.
        ⊎_elim
        (λ (same : k ≡ place). at_same old mid from by place a₁ a₂ b₁ b₂ further each low other is_a is_b goes k a b same below beside)
        (λ differ.
        at_other old mid from by place a₂ b₂ each k a b
        (λ same. ⊎_elim (λ (less : k < place). absurd (omega (arith, less, same))) (λ (more : place < k). absurd (omega (arith, more, same))) differ)
        below beside)
        (cases_order k place);
  }
