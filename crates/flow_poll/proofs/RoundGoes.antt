-- A round over some actors, in the middle and at its end.
use Rattle.std.proofs.Common.{◌≡◌, ℕ, zero, suc, ◌+◌, ◌<◌, List, [], ◌∷◌, length, get_or, set, Result, Ok, Err, refl, sym, ap, arith}
use Rattle.std.specs.declared.alloc.AllocError.{AllocError}
use Rattle.flow_poll.specs.declared.actor.TurnState.{TurnState}
use Rattle.flow_poll.specs.Turns.{IsRound, joint_state}

module _ {A : Type 0} (step : A → Result TurnState AllocError → A → Type 0) where
  -- so many have taken their step, and the joint state of these and of those before them is this
  abbrev pub IsHalf : ℕ → TurnState → TurnState → List A → List A → Type 0
  IsHalf zero before state olds news = (state ≡ before) × (news ≡ olds)
  IsHalf (suc place) before state (old ∷ olds) (new ∷ news) =
      (came : TurnState) × (step old (Ok came) new × IsHalf place (joint_state before came) state olds news)
  IsHalf (suc place) before state _ _ = ⊥

  -- the next one takes its step
  half_suc : (place : ℕ) (before state : TurnState) (olds news : List A) (here next : A) (came : TurnState) → place < length news
      → get_or news place here ≡ here → IsHalf place before state olds news → step here (Ok came) next
      → IsHalf (suc place) before (joint_state state came) olds (set news place next)
  half_suc zero before state olds [] here next came within is half went = absurd (omega (arith, within))
  half_suc zero before state [] (n ∷ ns) here next came within is half went = cc
  half_suc zero before state (o ∷ os) (n ∷ ns) here next came within is half went =
      let same : n ≡ o = cc in
      let rest : ns ≡ os = cc in
      (came, (rw (sym same, is) went, (rw half.0 refl, rest)))
  half_suc (suc place) before state [] news here next came within is half went = absurd half
  half_suc (suc place) before state (o ∷ os) [] here next came within is half went = absurd half
  half_suc (suc place) before state (o ∷ os) (n ∷ ns) here next came within is half went =
      (half.0, (half.1.0, half_suc place _ state os ns here next came (omega (arith, within)) is half.1.1 went))

  pub half_further : (place : ℕ) (before state later : TurnState) (olds news : List A) (here next : A) (came : TurnState)
      → place < length news → get_or news place here ≡ here → IsHalf place before state olds news → step here (Ok came) next
      → later ≡ joint_state state came → IsHalf (place + 1) before later olds (set news place next)
  half_further place before state later olds news here next came within is half went joint =
      let after : place + 1 ≡ suc place = omega arith in
      rw (after, joint) (half_suc place before state olds news here next came within is half went)

  -- all have taken their step
  pub half_whole : (place : ℕ) (before state : TurnState) (olds news : List A) → place ≡ length news → IsHalf place before state olds news
      → IsRound step before olds (Ok state) news
  half_whole zero before state [] [] all half = ap Ok half.0
  half_whole zero before state (o ∷ os) [] all half = cc
  half_whole zero before state olds (n ∷ ns) all half = absurd (omega (arith, all))
  half_whole (suc place) before state [] news all half = absurd half
  half_whole (suc place) before state (o ∷ os) [] all half = absurd half
  half_whole (suc place) before state (o ∷ os) (n ∷ ns) all half =
      (Ok half.0, (half.1.0, half_whole place _ state os ns (omega (arith, all)) half.1.1))

  -- the next one has no memory
  pub half_stops : (place : ℕ) (before state : TurnState) (olds news : List A) (here next : A) (answer : Result TurnState AllocError)
      (fault : AllocError) → place < length news → get_or news place here ≡ here → IsHalf place before state olds news
      → step here (Err fault) next → answer ≡ Err fault → IsRound step before olds answer (set news place next)
  half_stops zero before state olds [] here next answer fault within is half went why = absurd (omega (arith, within))
  half_stops zero before state [] (n ∷ ns) here next answer fault within is half went why = cc
  half_stops zero before state (o ∷ os) (n ∷ ns) here next answer fault within is half went why =
      let same : n ≡ o = cc in
      let rest : ns ≡ os = cc in
      (Err fault, (rw (sym same, is) went, (why, rest)))
  half_stops (suc place) before state [] news here next answer fault within is half went why = absurd half
  half_stops (suc place) before state (o ∷ os) [] here next answer fault within is half went why = absurd half
  half_stops (suc place) before state (o ∷ os) (n ∷ ns) here next answer fault within is half went why =
      (Ok half.0, (half.1.0, half_stops place _ state os ns here next answer fault (omega (arith, within)) is half.1.1 went why))
