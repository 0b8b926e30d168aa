-- What one round more tells of walks.
use Rattle.std.proofs.Common.{◌≡◌, ℕ, zero, suc, ◌+◌, ◌<◌, ◌==◌, Bool, true, false, ◌&&◌, ◌||◌, List, [], ◌∷◌, length, get_or, take, ◌-◌, ◌≤◌, subst, refl, ap, sym, ◌∙◌, arith, inl, inr}
use Rattle.std.proofs.lemmas.List.Folds.{list_any_more}
use Rattle.std.proofs.lemmas.Bool.{eq-eqb, eqb-true, cases_lt, and_from, or_right}
use Rattle.std.proofs.Math.ListN.{get_or-eq_default}
use Rattle.flow_link.specs.declared.plan.Link.{Link}
use Rattle.flow_link.specs.declared.plan.LinkTarget.{LinkTarget}
use Rattle.flow_link.specs.declared.plan.LinkTarget.TheVariants.{Port, Exit}
use Rattle.flow_link.specs.Lists.{some, numbers_from, below}
use Rattle.flow_link.specs.Plan.{begins_at, ends_at}
use Rattle.flow_link.specs.PlanFaults.{leads, walks}
use Rattle.flow_link.specs.Rounds.{goes_on, sets_out, IsRound}
use Rattle.flow_link.proofs.FirstInOrder.{any_is_some}

-- one more element
pub some_more : {A : Type 0} (test : A → Bool) (xs : List A) (i : ℕ) (d : A) → i < length xs
    → some test (take (i + 1) xs) ≡ (some test (take i xs) || test (get_or xs i d))
some_more test xs i d low =
    sym (any_is_some test (take (i + 1) xs)) ∙ list_any_more test xs i d low
    ∙ ap (λ b. b || test (get_or xs i d)) (any_is_some test (take i xs))

some_same : {A : Type 0} (f g : A → Bool) (xs : List A) → ((x : A) → f x ≡ g x) → some f xs ≡ some g xs
some_same f g [] same = refl
some_same f g (x ∷ xs) same = rw (same x, some_same f g xs same) refl

some_same_from : (f g : ℕ → Bool) (first count : ℕ) → ((k : ℕ) → k < count → f (first + k) ≡ g (first + k))
    → some f (numbers_from first count) ≡ some g (numbers_from first count)
some_same_from f g first zero same = refl
some_same_from f g first (suc count) same =
    let e : first + 0 ≡ first = omega arith in
    let here : f first ≡ g first = ap f (sym e) ∙ same 0 (omega arith) ∙ ap g e in
    let moved : (k : ℕ) → suc first + k ≡ first + suc k = λ k. omega arith in
    rw (here, some_same_from f g (suc first) count (λ k low. ap f (moved k) ∙ same (suc k) (omega arith) ∙ sym (ap g (moved k)))) refl

-- a test passes for each number below a bound where its other form does
pub some_same_below : (f g : ℕ → Bool) (count : ℕ) → ((k : ℕ) → k < count → f k ≡ g k) → some f (below count) ≡ some g (below count)
some_same_below f g count same =
    let e : (k : ℕ) → 0 + k ≡ k = λ k. omega arith in
    some_same_from f g 0 count (λ k low. ap f (e k) ∙ same k low ∙ sym (ap g (e k)))

or_mid : (a b c d : Bool) → ((a || b) || (c || d)) ≡ ((a || c) || (b || d))
or_mid true b c d = refl
or_mid false true true d = refl
or_mid false true false d = refl
or_mid false false c d = refl

some_false : (first count : ℕ) → some (λ (_ : ℕ). false) (numbers_from first count) ≡ false
some_false first zero = refl
some_false first (suc count) = some_false (suc first) count

some_or : {A : Type 0} (f g : A → Bool) (xs : List A) → some (λ x. f x || g x) xs ≡ (some f xs || some g xs)
some_or f g [] = refl
some_or f g (x ∷ xs) = ap (λ b. (f x || g x) || b) (some_or f g xs) ∙ or_mid (f x) (g x) (some f xs) (some g xs)

some_and : {A : Type 0} (b : Bool) (f : A → Bool) (xs : List A) → some (λ x. b && f x) xs ≡ (b && some f xs)
some_and true f xs = refl
some_and false f [] = refl
some_and false f (x ∷ xs) = some_and false f xs

some_none : (f : ℕ → Bool) (first count : ℕ) → ((k : ℕ) → k < count → f (first + k) ≡ false) → some f (numbers_from first count) ≡ false
some_none f first count fails = some_same_from f (λ _. false) first count fails ∙ some_false first count

some_here : (f : ℕ → Bool) (first count k : ℕ) → k < count → f (first + k) ≡ true → some f (numbers_from first count) ≡ true
some_here f first zero k low here = absurd (omega arith)
some_here f first (suc count) zero low here =
    let e : first ≡ first + 0 = omega arith in
    rw (ap f e ∙ here) refl
some_here f first (suc count) (suc k) low here =
    let moved : suc first + k ≡ first + suc k = omega arith in
    rw (some_here f (suc first) count k (omega arith) (ap f moved ∙ here)) (or_right (f first) true refl)

is_not : (reached : ℕ → Bool) (t c : ℕ) → (t ≡ c → reached c ≡ false) → (t == c && reached c) ≡ false
is_not reached t c fails =
    let go : (b : Bool) → (t == c) ≡ b → (b && reached c) ≡ false =
    λ b. elim b as (λ v. (t == c) ≡ v → (v && reached c) ≡ false) [ true ↦ λ e. fails (eqb-true t c e) | false ↦ λ e. refl ] in
    go (t == c) refl

in_row : (row : List Bool) (reached : ℕ → Bool) (t : ℕ) (b : Bool) → t < length row → reached t ≡ b
    → some (λ c. t == c && reached c) (below (length row)) ≡ b
in_row row reached t true low here =
    let e : t ≡ 0 + t = omega arith in
    some_here (λ c. t == c && reached c) 0 (length row) t low (and_from (t == (0 + t)) (reached (0 + t)) (eq-eqb t (0 + t) e) (ap reached (sym e) ∙ here))
in_row row reached t false low here =
    some_none (λ c. t == c && reached c) 0 (length row) (λ k small. is_not reached t (0 + k) (λ e. ap reached (sym e) ∙ here))

-- of the numbers below the length of a row, one passes with what the row says of it
some_one : (row : List Bool) (reached : ℕ → Bool) (t : ℕ) → ((c : ℕ) → c < length row → get_or row c false ≡ reached c)
    → some (λ c. t == c && reached c) (below (length row)) ≡ get_or row t false
some_one row reached t told =
    elim (cases_lt t (length row)) [
      | inl low ↦ in_row row reached t (reached t) low refl ∙ sym (told t low)
      | inr high ↦ some_none (λ c. t == c && reached c) 0 (length row) (λ k small. is_not reached t (0 + k) (λ e. absurd (omega arith)))
          ∙ sym (get_or-eq_default row false high)
    ]

shuffle : (x e l r s : Bool) → (((x && e) || l) || ((x && r) || s)) ≡ ((x && (e || r)) || (l || s))
shuffle false e l r s = refl
shuffle true true l r s = refl
shuffle true false true true s = refl
shuffle true false true false s = refl
shuffle true false false r s = refl

split_and : (x e l w : Bool) → (((x && e) || l) && w) ≡ ((x && (e && w)) || (l && w))
split_and false e l w = refl
split_and true true l true = refl
split_and true true true false = refl
split_and true true false false = refl
split_and true false l w = refl

into_target : (target : LinkTarget) (end : ℕ) (row : List Bool) (reached : ℕ → Bool)
    → ((c : ℕ) → c < length row → get_or row c false ≡ reached c)
    → (ends_at end target || some (λ c. ends_at c target && reached c) (below (length row))) ≡ goes_on end row target
into_target (Port t p) end row reached told = ap (λ b. t == end || b) (some_one row reached t told)
into_target Exit end row reached told = some_false 0 (length row)

-- one more link from some block, and then on to the end
pub round_of : (links : List Link) (end : ℕ) (row : List Bool) (reached : ℕ → Bool) (block : ℕ)
    → ((c : ℕ) → c < length row → get_or row c false ≡ reached c)
    → (leads links block end || some (λ c. leads links block c && reached c) (below (length row))) ≡ sets_out links end row block
round_of [] end row reached block told = some_none (λ _. false) 0 (length row) (λ k low. refl)
round_of (link ∷ links) end row reached block told =
    let x = begins_at block link.source in
    let e = λ (c : ℕ). ends_at c link.target in
    let n = below (length row) in
    let rest = λ (c : ℕ). leads links block c && reached c in
    let apart : some (λ c. ((x && e c) || leads links block c) && reached c) n ≡ ((x && some (λ c. e c && reached c) n) || some rest n) =
    some_same _ (λ c. (x && (e c && reached c)) || rest c) n (λ c. split_and x (e c) (leads links block c) (reached c))
    ∙ some_or (λ c. x && (e c && reached c)) rest n
    ∙ ap (λ b. b || some rest n) (some_and x (λ c. e c && reached c) n) in
    ap (λ b. ((x && e end) || leads links block end) || b) apart
    ∙ shuffle x (e end) (leads links block end) (some (λ c. e c && reached c) n) (some rest n)
    ∙ ap (λ b. (x && b) || (leads links block end || some rest n)) (into_target link.target end row reached told)
    ∙ ap (λ b. (x && goes_on end row link.target) || b) (round_of links end row reached block told)

pub next_round : (links : List Link) (steps end : ℕ) (row next : List Bool) → length next ≡ length row → IsRound links steps end row
    → ((c : ℕ) → c < length next → get_or next c false ≡ sets_out links end row c) → IsRound links (suc steps) end next
next_round links steps end row next same told more = λ c low.
    more c low ∙ sym (round_of links end row (λ b. walks links (length row) steps b end) c told)
    ∙ ap (λ n. walks links n (suc steps) c end) (sym same)

-- one link more is written into a row
pub marks_more : (links : List Link) (i : ℕ) (d : Link) (end : ℕ) (row : List Bool) (block : ℕ) (before reaches : Bool) → i < length links
    → before ≡ sets_out (take i links) end row block → reaches ≡ goes_on end row (get_or links i d).target
    → (before || begins_at block (get_or links i d).source && reaches) ≡ sets_out (take (i + 1) links) end row block
marks_more links i d end row block before reaches low eb er =
    ap (λ b. b || begins_at block (get_or links i d).source && reaches) eb
    ∙ ap (λ b. sets_out (take i links) end row block || begins_at block (get_or links i d).source && b) er
    ∙ sym (some_more (λ link. begins_at block link.source && goes_on end row link.target) links i d low)

-- a row that one link more does not change is that of all longer walks
pub stays : (links : List Link) (end : ℕ) (row : List Bool) (steps : ℕ) → IsRound links steps end row
    → ((c : ℕ) → c < length row → get_or row c false ≡ sets_out links end row c) → (more : ℕ) → IsRound links (more + steps) end row
stays links end row steps told same zero =
    let P : ℕ → Type 0 = λ n. IsRound links n end row in
    let e : steps ≡ 0 + steps = omega arith in
    subst P e told
stays links end row steps told same (suc more) =
    let P : ℕ → Type 0 = λ n. IsRound links n end row in
    let e : suc (more + steps) ≡ suc more + steps = omega arith in
    subst P e (next_round links (more + steps) end row row refl (stays links end row steps told same more) same)

pub settled : (links : List Link) (end : ℕ) (row next : List Bool) (steps : ℕ) → IsRound links steps end row → next ≡ row
    → ((c : ℕ) → c < length next → get_or next c false ≡ sets_out links end row c) → steps ≤ length row → end < length row
    → get_or row end false ≡ walks links (length row) (length row) end end
settled links end row next steps told same more few low =
    let Q : List Bool → Type 0 = λ r. (c : ℕ) → c < length r → get_or r c false ≡ sets_out links end row c in
    let P : ℕ → Type 0 = λ n. IsRound links n end row in
    let e : (length row - steps) + steps ≡ length row = omega arith in
    let all : IsRound links (length row) end row = subst P e (stays links end row steps told (subst Q same more) (length row - steps)) in
    all end low

pub some_here_below : (f : ℕ → Bool) (count k : ℕ) → k < count → f k ≡ true → some f (below count) ≡ true
some_here_below f count k low here =
    let e : 0 + k ≡ k = omega arith in
    some_here f 0 count k low (ap f e ∙ here)

pub some_none_below : (f : ℕ → Bool) (count : ℕ) → ((k : ℕ) → k < count → f k ≡ false) → some f (below count) ≡ false
some_none_below f count fails =
    let e : (k : ℕ) → 0 + k ≡ k = λ k. omega arith in
    some_none f 0 count (λ k low. ap f (e k) ∙ fails k low)

pub finished : (links : List Link) (end : ℕ) (row : List Bool) (steps : ℕ) → IsRound links steps end row → steps ≡ length row → end < length row
    → get_or row end false ≡ walks links (length row) (length row) end end
finished links end row steps told all low = told end low ∙ ap (λ n. walks links (length row) n end end) all
