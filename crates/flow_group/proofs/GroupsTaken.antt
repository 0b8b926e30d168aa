-- The messages of the next group, copied and taken off one by one.
use Rattle.std.proofs.Common.{◌≡◌, ℕ, zero, suc, ◌+◌, ◌<◌, ◌==◌, cond, List, [], ◌∷◌, ◌++◌, length, get_or, take, drop, min, refl, ap, sym, ◌∙◌, arith}
use Rattle.std.proofs.Math.Seq.{drop-nil}
use Rattle.std.proofs.lemmas.List.{take_min, drop_min, take_more}
use Rattle.flow_group.specs.Group.{came_at}

pub take_least : {A : Type 0} (count : ℕ) (values : List A) → take (min count (length values)) values ≡ take count values
take_least count values = take_min count values

pub drop_least : {A : Type 0} (count : ℕ) (values : List A) → drop (min count (length values)) values ≡ drop count values
drop_least count values = drop_min count values

pub drop_next : {A : Type 0} (count : ℕ) (values : List A) → drop 1 (drop count values) ≡ drop (count + 1) values
drop_next zero values = refl
drop_next (suc count) [] = sym (drop-nil (suc count + 1))
drop_next (suc count) (value ∷ values) =
    let one : suc count + 1 ≡ suc (count + 1) = omega arith in
    rw one (drop_next count values)

-- one more message of a group came in at a port, or not
pub came_more : (p : ℕ) (order : List ℕ) (q : ℕ) → came_at p (order ++ q ∷ []) ≡ came_at p order + cond (q == p) 1 0
came_more p [] q = omega arith
came_more p (first ∷ order) q = let rest = came_more p order q in omega arith

pub came_next : (p : ℕ) (order : List ℕ) (place q : ℕ) → place < length order → q ≡ get_or order place 0
    → came_at p (take (place + 1) order) ≡ came_at p (take place order) + cond (q == p) 1 0
came_next p order place q l is =
    ap (came_at p) (take_more order place 0 l) ∙ came_more p (take place order) (get_or order place 0)
    ∙ ap (λ (port : ℕ). came_at p (take place order) + cond (port == p) 1 0) (sym is)
