-- How the results of a function at many values grow by one more value.
use Rattle.std.proofs.Common.{◌≡◌, ℕ, ◌+◌, ◌-◌, ◌<◌, ◌≤◌, arith, pos, replicate, take, drop, length, slice_index_or, List, [], ◌∷◌, ◌++◌, Ok, Err, refl, sym, ap, ◌∙◌, append_assoc}
use Rattle.std.proofs.lemmas.List.{append-nil, drop_more, replicate-append-replicate, take-append-drop}
use Rattle.std.proofs.lemmas.List.FromFn.{get_or-map-range_with_len, length-map-range_with_len, take-map-range_with_len}
use Rattle.std.proofs.Math.ListN.{drop_of_length-le}
use Rattle.flow_value.specs.Function.{joined, each, then_each, meaning_of}
use Rattle.flow_value.specs.Step.{Given, applied, ints_below}
use Rattle.flow_value.specs.declared.step.Step.{Step}
use Rattle.flow_value.specs.declared.step.Step.TheVariants.{Id}
use Rattle.flow_value.specs.declared.value.Value.{Value}
use Rattle.flow_value.specs.declared.value.Value.TheVariants.{Int}
use Rattle.flow_value.specs.declared.work.WorkFault.{WorkFault}

pub joined_assoc : (a b c : Given) → joined (joined a b) c ≡ joined a (joined b c)
joined_assoc (Ok us) (Ok vs) (Ok ws) = ap Ok (append_assoc us vs ws)
joined_assoc (Ok us) (Ok vs) (Err fault) = refl
joined_assoc (Ok us) (Err fault) c = refl
joined_assoc (Err fault) b c = refl

pub joined-nothing : (a : Given) → joined a (Ok []) ≡ a
joined-nothing (Ok us) = ap Ok (append-nil us)
joined-nothing (Err fault) = refl

-- what came behind results was values too
pub joined-Ok : (us ws : List Value) (a : Given) → joined (Ok us) a ≡ Ok ws → (vs : List Value) × (a ≡ Ok vs)
joined-Ok us ws (Ok vs) e = (vs, refl)
joined-Ok us ws (Err fault) e = cc

module _ (f : Value → Given) where
  pub each-append : (us vs : List Value) → each f (us ++ vs) ≡ joined (each f us) (each f vs)
  each-append [] vs = nothing_joined (each f vs)
    where
      nothing_joined : (a : Given) → a ≡ joined (Ok []) a
      nothing_joined (Ok ws) = refl
      nothing_joined (Err fault) = refl
  each-append (u ∷ us) vs = ap (joined (f u)) (each-append us vs) ∙ sym (joined_assoc (f u) (each f us) (each f vs))

  pub each-one : (v : Value) → each f (v ∷ []) ≡ f v
  each-one v = joined-nothing (f v)

  -- one more value behind those that were worked on
  pub each-more : (before so_far after done : List Value) (v : Value)
      → joined (Ok before) (each f done) ≡ Ok so_far → joined (Ok so_far) (f v) ≡ Ok after
      → joined (Ok before) (each f (done ++ v ∷ [])) ≡ Ok after
  each-more before so_far after done v e more =
      ap (joined (Ok before)) (each-append done (v ∷ []) ∙ ap (joined (each f done)) (each-one v))
      ∙ sym (joined_assoc (Ok before) (each f done) (f v)) ∙ ap (λ a. joined a (f v)) e ∙ more

  -- the first fault ends it
  pub each-fault : (before so_far done rest : List Value) (v : Value) (fault : WorkFault)
      → joined (Ok before) (each f done) ≡ Ok so_far → f v ≡ Err fault
      → each f (done ++ v ∷ rest) ≡ Err fault
  each-fault before so_far done rest v fault e faults =
      let worked = joined-Ok before so_far (each f done) e in
      each-append done (v ∷ rest) ∙ ap (λ a. joined a (each f (v ∷ rest))) worked.1
      ∙ ap (λ a. joined (Ok worked.0) (joined a (each f rest))) faults

-- a step that gives many values hands each to the rest
pub meaning_of-many : (steps rest : List Step) (step : Step) (v : Value) (vs : List Value)
    → steps ≡ step ∷ rest → applied step v ≡ Ok vs → meaning_of steps v ≡ each (meaning_of rest) vs
meaning_of-many steps rest step v vs parts gives =
    ap (λ all. meaning_of all v) parts ∙ ap (λ given. then_each given (meaning_of rest)) gives

module _ (steps : List Step) (k : ℕ) (v : Value) where
  -- where a step gives one value, the steps behind it are handed that
  pub one_more_step : (next : Value) → k < length steps → applied (slice_index_or steps k Id) v ≡ Ok (next ∷ [])
      → meaning_of (drop k steps) v ≡ meaning_of (drop (k + 1) steps) next
  one_more_step next there gives =
      meaning_of-many (drop k steps) (drop (k + 1) steps) (slice_index_or steps k Id) v (next ∷ []) (drop_more steps k Id there) gives
      ∙ each-one (meaning_of (drop (k + 1) steps)) next

  -- a step that faults ends it
  pub fault_at_step : (fault : WorkFault) → k < length steps → applied (slice_index_or steps k Id) v ≡ Err fault
      → meaning_of (drop k steps) v ≡ Err fault
  fault_at_step fault there faults =
      ap (λ (all : List Step). meaning_of all v) (drop_more steps k Id there)
      ∙ ap (λ (given : Given). then_each given (meaning_of (drop (k + 1) steps))) faults

  -- behind the last step the value is what comes out
  pub all_applied : length steps ≤ k → meaning_of (drop k steps) v ≡ Ok (v ∷ [])
  all_applied none = ap (λ (all : List Step). meaning_of all v) (drop_of_length-le steps none)

-- the numbers below one, parted at one of them
pub parted_below : (k n : ℕ) → k < n → ints_below n ≡ ints_below k ++ Int (pos k) ∷ drop (k + 1) (ints_below n)
parted_below k n less =
    let whole = ints_below n in
    let there : k < length whole = omega (arith, length-map-range_with_len (λ i. Int (pos i)) 0 n) in
    sym (take-append-drop k whole)
    ∙ ap (λ front. front ++ drop k whole) (take-map-range_with_len (λ i. Int (pos i)) 0 n k (omega arith))
    ∙ ap (λ back. ints_below k ++ back) (drop_more whole k (Int (pos 0)) there)
    ∙ ap (λ v. ints_below k ++ v ∷ drop (k + 1) whole) (get_or-map-range_with_len (λ i. Int (pos i)) 0 n k k (Int (pos 0)) less (omega arith))

-- a value so many times, parted at one of them
pub parted_times : (k n : ℕ) (v : Value) → k < n → replicate n v ≡ replicate k v ++ v ∷ replicate (n - (k + 1)) v
parted_times k n v less =
    let whole : n ≡ k + (1 + (n - (k + 1))) = omega arith in
    ap (λ m. replicate m v) whole ∙ sym (replicate-append-replicate k (1 + (n - (k + 1))) v)
    ∙ ap (λ back. replicate k v ++ back) (sym (replicate-append-replicate 1 (n - (k + 1)) v))

-- and once more
pub times_more : (n : ℕ) (v : Value) → replicate n v ++ v ∷ [] ≡ replicate (n + 1) v
times_more n v = replicate-append-replicate n 1 v

module _ (steps rest : List Step) (step : Step) (v : Value) (parts : steps ≡ step ∷ rest) where
  -- a step that gives one value hands it to the rest
  pub meaning_of-one : (next : Value) → applied step v ≡ Ok (next ∷ []) → meaning_of steps v ≡ meaning_of rest next
  meaning_of-one next gives = meaning_of-many steps rest step v (next ∷ []) parts gives ∙ each-one (meaning_of rest) next

  -- a step that faults ends it
  pub meaning_of-fault : (fault : WorkFault) → applied step v ≡ Err fault → meaning_of steps v ≡ Err fault
  meaning_of-fault fault faults =
      ap (λ (all : List Step). meaning_of all v) parts ∙ ap (λ (given : Given). then_each given (meaning_of rest)) faults
