-- Counts of ends that stand at given stages.
use Rattle.std.proofs.Common.{◌≡◌, ℕ, zero, suc, ◌+◌, ◌<◌, ◌≤◌, Bool, true, false, cond, List, [], ◌∷◌, ◌++◌, length, set, refl, arith}
use Rattle.flow_link.specs.declared.stage.TargetStage.{TargetStage}
use Rattle.flow_link.specs.declared.stage.TargetStage.TheVariants.{Free, Postponed, Accepted, Consuming, Asking, Holding, Claiming, Arrived, Hand}
use Rattle.flow_link.proofs.ListTests.{at_most_one}
use Rattle.flow_intake.specs.Port.{EndState, count_at, stage_in, fresh_end, is_coming, is_owed, is_hand}

-- when one end changes, the count changes by what that end counts before and after
pub count_after_set : (test : TargetStage → Bool) (ends : List EndState) (place : ℕ) (end : EndState) → place < length ends
    → count_at test (set ends place end) + cond (test (stage_in place ends)) 1 0 ≡ count_at test ends + cond (test end.stage) 1 0
count_after_set test [] place end below = absurd (omega arith)
count_after_set test (first ∷ ends) zero end below = omega arith
count_after_set test (first ∷ ends) (suc place) end below = omega (arith, count_after_set test ends place end (omega arith))

-- an end that counts is counted
pub count_there : (test : TargetStage → Bool) (ends : List EndState) (place : ℕ) → place < length ends
    → cond (test (stage_in place ends)) 1 0 ≤ count_at test ends
count_there test [] place below = absurd (omega arith)
count_there test (first ∷ ends) zero below = omega arith
count_there test (first ∷ ends) (suc place) below = omega (arith, count_there test ends place (omega arith))

pub count_below : (test : TargetStage → Bool) (ends : List EndState) → count_at test ends ≤ length ends
count_below test [] = omega arith
count_below test (first ∷ ends) = omega (arith, at_most_one (test first.stage), count_below test ends)

-- the count that is kept when one end goes from one stage to another
pub count_moved : (test : TargetStage → Bool) (ends : List EndState) (place : ℕ) (end : EndState) (count counted : ℕ) → place < length ends
    → count ≡ count_at test ends
    → counted + cond (test (stage_in place ends)) 1 0 ≡ count + cond (test end.stage) 1 0
    → counted ≡ count_at test (set ends place end)
count_moved test ends place end count counted below is change = omega (arith, count_after_set test ends place end below)

-- an end that has a message that comes counts among those for which memory is set aside
pub coming_is_owed : (stage : TargetStage) → is_coming stage ≡ true → is_owed stage ≡ true
coming_is_owed (Accepted _) comes = refl
coming_is_owed (Consuming _) comes = refl
coming_is_owed (Claiming _) comes = refl
coming_is_owed (Arrived _) comes = refl
coming_is_owed (Hand _) comes = refl
coming_is_owed (Postponed _) comes = refl
coming_is_owed (Asking _) comes = refl
coming_is_owed (Holding _) comes = refl
coming_is_owed stage comes = absurd (cc)

-- an end whose message comes, before and after, or before alone
pub count_same : (test : TargetStage → Bool) (ends : List EndState) (place : ℕ) (end : EndState) → place < length ends
    → test (stage_in place ends) ≡ test end.stage → count_at test (set ends place end) ≡ count_at test ends
count_same test ends place end below same = let moved = count_after_set test ends place end below in
    let balanced : count_at test (set ends place end) + cond (test end.stage) 1 0 ≡ count_at test ends + cond (test end.stage) 1 0 = rw same at moved in
    omega arith

pub count_less : (test : TargetStage → Bool) (ends : List EndState) (place : ℕ) (end : EndState) → place < length ends
    → test (stage_in place ends) ≡ true → test end.stage ≡ false → count_at test (set ends place end) + 1 ≡ count_at test ends
count_less test ends place end below before after = let moved = count_after_set test ends place end below in
    let balanced : count_at test (set ends place end) + 1 ≡ count_at test ends + 0 = rw (before, after) at moved in
    omega arith

pub count_added : (test : TargetStage → Bool) (ends : List EndState) (link : ℕ) → test Free ≡ false → count_at test (ends ++ fresh_end link ∷ []) ≡ count_at test ends
count_added test [] link free = rw free refl
count_added test (first ∷ ends) link free = rw (count_added test ends link free) refl

pub hand_comes : (stage : TargetStage) → is_hand stage ≡ true → is_coming stage ≡ true
hand_comes (Hand _) there = refl
hand_comes stage there = absurd (cc)
