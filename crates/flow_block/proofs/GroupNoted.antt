-- The ports at which the first messages came in are noted mark by mark.
use Rattle.std.proofs.Common.{◌≡◌, ◌≢◌, ℕ, zero, suc, ◌+◌, ◌-◌, ◌<◌, ◌≤◌, List, [], ◌∷◌, ◌++◌, length, get_or, take, drop, refl, ap, sym, ◌∙◌, arith, append_assoc, append-nil, length-append}
use Rattle.flow_value.specs.declared.value.Value.{Value}
use Rattle.flow_link.specs.declared.trace.Mark.{Mark}
use Rattle.flow_link.specs.declared.trace.Mark.TheVariants.{Took, Gave, Complete, Fault, Done}
use Rattle.flow_block.specs.Groups.{ports_in, marks_until}

-- so many messages are noted up to a mark, from another on
pub record Noted (journal : List Mark) (from count : ℕ) (noted : List ℕ) (place : ℕ) : Type 0 where
  pub ports : take count (ports_in (drop from journal)) ≡ noted ++ take (count - length noted) (ports_in (drop place journal))
  pub marks : from + marks_until (drop from journal) count ≡ place + marks_until (drop place journal) (count - length noted)
  pub few : length noted ≤ count

-- one mark more, where fewer messages are noted than are to be
took_one : (marks : List Mark) (left p l : ℕ) (value : Value) → 0 < left
    → (take left (ports_in (Took p l value ∷ marks)) ≡ p ∷ take (left - 1) (ports_in marks))
    × (marks_until (Took p l value ∷ marks) left ≡ 1 + marks_until marks (left - 1))
took_one marks zero p l value some = absurd (omega (arith, some))
took_one marks (suc left) p l value some =
    let one : suc left - 1 ≡ left = omega arith in
    rw one (refl, refl)

-- the mark is of no message
abbrev pub IsOther : Mark → Type 0
IsOther mark = (p l : ℕ) (value : Value) → mark ≢ Took p l value

other_one : (marks : List Mark) (left : ℕ) (mark : Mark) → 0 < left → IsOther mark
    → (ports_in (mark ∷ marks) ≡ ports_in marks) × (marks_until (mark ∷ marks) left ≡ 1 + marks_until marks left)
other_one marks zero mark some other = absurd (omega (arith, some))
other_one marks (suc left) (Took p l value) some other = absurd (other p l value refl)
other_one marks (suc left) (Gave l value) some other = (refl, refl)
other_one marks (suc left) (Complete p) some other = (refl, refl)
other_one marks (suc left) (Fault number) some other = (refl, refl)
other_one marks (suc left) Done some other = (refl, refl)

next_mark : (journal : List Mark) (place : ℕ) (mark : Mark) → place < length journal → mark ≡ get_or journal place mark
    → drop place journal ≡ mark ∷ drop (place + 1) journal
next_mark [] place mark there is = absurd (omega (arith, there))
next_mark (first ∷ journal) zero mark there is = ap (λ (m : Mark). m ∷ journal) (sym is)
next_mark (first ∷ journal) (suc place) mark there is =
    let small : place < length journal = omega (arith, there) in
    let one : suc place + 1 ≡ suc (place + 1) = omega arith in
    rw one (next_mark journal place mark small is)

module _ (journal : List Mark) (from count : ℕ) (noted : List ℕ) (place : ℕ) (so_far : Noted journal from count noted place)
    (more : length noted < count) (there : place < length journal) where
  abbrev left : ℕ
  left = count - length noted

  abbrev rest : List Mark
  rest = drop (place + 1) journal

  pub noted_took : (p l : ℕ) (value : Value) → Took p l value ≡ get_or journal place (Took p l value)
      → Noted journal from count (noted ++ p ∷ []) (place + 1)
  noted_took p l value is =
      let next = next_mark journal place (Took p l value) there is in
      let one = took_one rest left p l value (omega (arith, more)) in
      let longer : length (noted ++ p ∷ []) ≡ length noted + 1 = length-append noted (p ∷ []) in
      let fewer : count - length (noted ++ p ∷ []) ≡ left - 1 = omega (arith, longer) in
      let marks : place + marks_until (drop place journal) left ≡ place + 1 + marks_until rest (left - 1) =
      ap (λ (marks : List Mark). place + marks_until marks left) next ∙ omega (arith, one.1) in
      record {
        ports = rw fewer
            (so_far.ports
            ∙ ap (λ (marks : List Mark). noted ++ take left (ports_in marks)) next
            ∙ ap (λ (ports : List ℕ). noted ++ ports) one.0
            ∙ sym (append_assoc noted (p ∷ []) (take (left - 1) (ports_in rest))));
        marks = rw fewer (so_far.marks ∙ marks);
        few = omega (arith, longer, more);
      }

  pub noted_other : (mark : Mark) → IsOther mark → mark ≡ get_or journal place mark → Noted journal from count noted (place + 1)
  noted_other mark other is =
      let next = next_mark journal place mark there is in
      let one = other_one rest left mark (omega (arith, more)) other in
      let marks : place + marks_until (drop place journal) left ≡ place + 1 + marks_until rest left =
      ap (λ (marks : List Mark). place + marks_until marks left) next ∙ omega (arith, one.1) in
      record {
        ports = so_far.ports ∙ ap (λ (marks : List Mark). noted ++ take left (ports_in marks)) next
            ∙ ap (λ (ports : List ℕ). noted ++ take left ports) one.0;
        marks = so_far.marks ∙ marks;
        few = so_far.few;
      }

until_none : (marks : List Mark) → marks_until marks 0 ≡ 0
until_none [] = refl
until_none (Took p l value ∷ marks) = refl
until_none (Gave l value ∷ marks) = refl
until_none (Complete p ∷ marks) = refl
until_none (Fault number ∷ marks) = refl
until_none (Done ∷ marks) = refl

-- what is noted then
pub record AllNoted (journal : List Mark) (from count : ℕ) (noted : List ℕ) (place : ℕ) : Type 0 where
  pub ports : noted ≡ take count (ports_in (drop from journal))
  pub marks : place ≡ from + marks_until (drop from journal) count

module _ (journal : List Mark) (from count : ℕ) (noted : List ℕ) (place : ℕ) (so_far : Noted journal from count noted place) where
  pub noted_whole : count ≤ length noted → AllNoted journal from count noted place
  noted_whole enough =
      let few = so_far.few in
      let none : count - length noted ≡ 0 = omega (arith, enough) in
      let ports : noted ++ take (count - length noted) (ports_in (drop place journal)) ≡ noted = rw none (append-nil noted) in
      let marks : marks_until (drop place journal) (count - length noted) ≡ 0 = rw none (until_none (drop place journal)) in
      record { ports = sym (so_far.ports ∙ ports); marks = omega (arith, so_far.marks, marks) }
