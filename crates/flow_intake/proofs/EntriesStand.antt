-- Which entries of a queue stand when a place leaves, joins or is added.
use Rattle.std.proofs.Common.{filter, ◌≡◌, ◌≢◌, ℕ, ◌+◌, ◌<◌, ◌≤◌, zero, suc, ◌==◌, Bool, true, false, cond, List, [], ◌∷◌, ◌++◌, length, get_or, set, drop, refl, ap, sym, subst, ◌∙◌, arith, eq-eqb, ne_eqb, eqb-true}
use Rattle.std.proofs.lemmas.Bool.{eqb-false}
use Rattle.std.proofs.lemmas.List.{get_or-set_same, get_or-set_other}
use Rattle.flow_intake.specs.declared.queue.Entry.{Entry}
use Rattle.flow_intake.specs.Queue.{stands, without, standing, ArePlaced, AreNumbered, FirstStands}

-- what leaves the queue does so whether its entry stood or not
skips : (place other : ℕ) (rest : List ℕ) (stands : Bool) → other == place ≡ true → without place (cond stands (other ∷ rest) rest) ≡ without place rest
skips place other rest true same = rw same refl
skips place other rest false same = refl

keeps : (place other : ℕ) (rest : List ℕ) (stands : Bool) → other == place ≡ false
    → without place (cond stands (other ∷ rest) rest) ≡ cond stands (other ∷ without place rest) (without place rest)
keeps place other rest true same = rw same refl
keeps place other rest false same = refl

-- an entry whose place got another turn does not stand, and each other entry stands or does not as before
turned : (turns : List ℕ) (place turn : ℕ) (entry : Entry) (rest : List ℕ) (same : Bool) → entry.place == place ≡ same
    → place < length turns → turn ≢ entry.number
    → cond (get_or (set turns place turn) entry.place 0 == entry.number) (entry.place ∷ without place rest) (without place rest)
    ≡ without place (cond (get_or turns entry.place 0 == entry.number) (entry.place ∷ rest) rest)
turned turns place turn entry rest true is below other =
    let at : entry.place ≡ place = eqb-true entry.place place is in
    let read : get_or (set turns place turn) entry.place 0 ≡ turn = rw at (get_or-set_same turns place turn 0 below) in
    let not_so : (get_or (set turns place turn) entry.place 0 == entry.number) ≡ false = rw read (ne_eqb turn entry.number other) in
    rw not_so (sym (skips place entry.place rest (get_or turns entry.place 0 == entry.number) is))
turned turns place turn entry rest false is below other =
    let read : get_or (set turns place turn) entry.place 0 ≡ get_or turns entry.place 0 = get_or-set_other turns place entry.place turn 0 (eqb-false entry.place place is) in
    rw read (sym (keeps place entry.place rest (get_or turns entry.place 0 == entry.number) is))

pub standing-turned : (turns : List ℕ) (place turn last : ℕ) (entries : List Entry) → AreNumbered last entries → place < length turns
    → ((n : ℕ) → 1 ≤ n → n ≤ last → turn ≢ n) → standing (set turns place turn) entries ≡ without place (standing turns entries)
standing-turned turns place turn last [] numbered below fresh = refl
standing-turned turns place turn last (entry ∷ entries) numbered below fresh =
    rw (standing-turned turns place turn last entries numbered.1 below fresh)
    (turned turns place turn entry (standing turns entries) (entry.place == place) refl below (fresh entry.number numbered.0.0 numbered.0.1))

-- a place leaves
pub standing-left : (turns : List ℕ) (place last : ℕ) (entries : List Entry) → AreNumbered last entries → place < length turns
    → standing (set turns place 0) entries ≡ without place (standing turns entries)
standing-left turns place last entries numbered below =
    standing-turned turns place 0 last entries numbered below (λ n least most same. omega arith)

standing-append : (turns : List ℕ) (entries : List Entry) (entry : Entry) → get_or turns entry.place 0 ≡ entry.number
    → standing turns (entries ++ entry ∷ []) ≡ standing turns entries ++ entry.place ∷ []
standing-append turns [] entry stands = rw (eq-eqb (get_or turns entry.place 0) entry.number stands) refl
standing-append turns (first ∷ entries) entry stands =
    rw (standing-append turns entries entry stands) (either (get_or turns first.place 0 == first.number) first.place (standing turns entries) (entry.place ∷ []))
  where
    either : (b : Bool) (p : ℕ) (xs ys : List ℕ) → cond b (p ∷ (xs ++ ys)) (xs ++ ys) ≡ cond b (p ∷ xs) xs ++ ys
    either true p xs ys = refl
    either false p xs ys = refl

-- a place joins with the number that comes next
pub standing-joined : (turns : List ℕ) (place last : ℕ) (entries : List Entry) → AreNumbered last entries → place < length turns
    → standing (set turns place (last + 1)) (entries ++ record { place = place; number = last + 1 } ∷ [])
    ≡ without place (standing turns entries) ++ place ∷ []
standing-joined turns place last entries numbered below =
    standing-append (set turns place (last + 1)) entries (record { place = place; number = last + 1 }) (get_or-set_same turns place (last + 1) 0 below)
    ∙ ap (λ (xs : List ℕ). xs ++ place ∷ [])
    (standing-turned turns place (last + 1) last entries numbered below (λ n least most same. omega arith))

pub placed-joined : (count : ℕ) (entries : List Entry) (entry : Entry) → ArePlaced count entries → entry.place < count → ArePlaced count (entries ++ entry ∷ [])
placed-joined count [] entry placed below = (below, tt)
placed-joined count (first ∷ entries) entry placed below = (placed.0, placed-joined count entries entry placed.1 below)

pub numbered-joined : (last : ℕ) (entries : List Entry) (entry : Entry) → AreNumbered last entries → entry.number ≡ last + 1
    → AreNumbered (last + 1) (entries ++ entry ∷ [])
numbered-joined last [] entry numbered is = ((omega arith, omega arith), tt)
numbered-joined last (first ∷ entries) entry numbered is =
    ((numbered.0.0, omega (arith, numbered.0.1)), numbered-joined last entries entry numbered.1 is)

-- one more place, which has not joined
read_added : (turns : List ℕ) (place : ℕ) → place < length turns → get_or (turns ++ 0 ∷ []) place 0 ≡ get_or turns place 0
read_added [] place below = absurd (omega arith)
read_added (turn ∷ turns) zero below = refl
read_added (turn ∷ turns) (suc place) below = read_added turns place (omega arith)

pub standing-added : (turns : List ℕ) (entries : List Entry) → ArePlaced (length turns) entries → standing (turns ++ 0 ∷ []) entries ≡ standing turns entries
standing-added turns [] placed = refl
standing-added turns (entry ∷ entries) placed = rw (read_added turns entry.place placed.0, standing-added turns entries placed.1) refl

pub placed-added : (count : ℕ) (entries : List Entry) → ArePlaced count entries → ArePlaced (count + 1) entries
placed-added count [] placed = tt
placed-added count (entry ∷ entries) placed = (omega (arith, placed.0), placed-added count entries placed.1)

pub first-added : (turns : List ℕ) (entries : List Entry) → ArePlaced (length turns) entries → FirstStands turns entries → FirstStands (turns ++ 0 ∷ []) entries
first-added turns [] placed first = tt
first-added turns (entry ∷ entries) placed first = rw (read_added turns entry.place placed.0) first

-- an entry that does not stand is dropped in front
pub standing-dropped : (turns : List ℕ) (entry : Entry) (entries : List Entry) → get_or turns entry.place 0 ≢ entry.number
    → standing turns entries ≡ standing turns (entry ∷ entries)
standing-dropped turns entry entries stale = rw (ne_eqb (get_or turns entry.place 0) entry.number stale) refl

pub standing-popped : (turns : List ℕ) (entry : Entry) (entries : List Entry) → entry ≡ get_or entries 0 entry → get_or turns entry.place 0 ≢ entry.number
    → standing turns (drop 1 entries) ≡ standing turns entries
standing-popped turns entry [] first stale = refl
standing-popped turns entry (x ∷ entries) first stale =
    standing-dropped turns x entries (subst (λ (e : Entry). get_or turns e.place 0 ≢ e.number) first stale)

pub placed-popped : (count : ℕ) (entries : List Entry) → ArePlaced count entries → ArePlaced count (drop 1 entries)
placed-popped count [] placed = tt
placed-popped count (x ∷ entries) placed = placed.1

pub numbered-popped : (last : ℕ) (entries : List Entry) → AreNumbered last entries → AreNumbered last (drop 1 entries)
numbered-popped last [] numbered = tt
numbered-popped last (x ∷ entries) numbered = numbered.1

-- all that do not stand are dropped
standing_one : (turns : List ℕ) (entry : Entry) (kept entries : List Entry) (now : Bool) → stands turns entry ≡ now
    → standing turns kept ≡ standing turns entries → standing turns (cond now (entry ∷ kept) kept) ≡ standing turns (entry ∷ entries)
standing_one turns entry kept entries true is same = rw same refl
standing_one turns entry kept entries false is same = rw is same

pub standing-kept : (turns : List ℕ) (entries : List Entry) → standing turns (filter (λ entry. stands turns entry) entries) ≡ standing turns entries
standing-kept turns [] = refl
standing-kept turns (entry ∷ entries) = standing_one turns entry _ entries (stands turns entry) refl (standing-kept turns entries)

placed_one : (count : ℕ) (entry : Entry) (kept : List Entry) (now : Bool) → entry.place < count → ArePlaced count kept → ArePlaced count (cond now (entry ∷ kept) kept)
placed_one count entry kept true one placed = (one, placed)
placed_one count entry kept false one placed = placed

pub placed-kept : (turns : List ℕ) (count : ℕ) (entries : List Entry) → ArePlaced count entries → ArePlaced count (filter (λ entry. stands turns entry) entries)
placed-kept turns count [] placed = tt
placed-kept turns count (entry ∷ entries) placed = placed_one count entry _ (stands turns entry) placed.0 (placed-kept turns count entries placed.1)

numbered_one : (last : ℕ) (entry : Entry) (kept : List Entry) (now : Bool) → (1 ≤ entry.number) × (entry.number ≤ last) → AreNumbered last kept
    → AreNumbered last (cond now (entry ∷ kept) kept)
numbered_one last entry kept true one numbered = (one, numbered)
numbered_one last entry kept false one numbered = numbered

pub numbered-kept : (turns : List ℕ) (last : ℕ) (entries : List Entry) → AreNumbered last entries → AreNumbered last (filter (λ entry. stands turns entry) entries)
numbered-kept turns last [] numbered = tt
numbered-kept turns last (entry ∷ entries) numbered = numbered_one last entry _ (stands turns entry) numbered.0 (numbered-kept turns last entries numbered.1)

first_one : (turns : List ℕ) (entry : Entry) (kept : List Entry) (now : Bool) → stands turns entry ≡ now → FirstStands turns kept
    → FirstStands turns (cond now (entry ∷ kept) kept)
first_one turns entry kept true is first = eqb-true (get_or turns entry.place 0) entry.number is
first_one turns entry kept false is first = first

pub first-kept : (turns : List ℕ) (entries : List Entry) → FirstStands turns (filter (λ entry. stands turns entry) entries)
first-kept turns [] = tt
first-kept turns (entry ∷ entries) = first_one turns entry _ (stands turns entry) refl (first-kept turns entries)
