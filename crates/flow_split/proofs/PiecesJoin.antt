-- Pieces that are taken off a text one after another, joined again.
use Rattle.std.proofs.Common.{◌≡◌, ℕ, List, [], ◌∷◌, ◌++◌, take, drop, flat_map, Bor, refl, sym, ◌∙◌, ap, append_assoc}
use Rattle.std.proofs.lemmas.List.{append-nil, take-append-drop}
use Rattle.std.proofs.lemmas.Grind.{flat_map-append}

-- the pieces so far, one after another
abbrev pub joined : List (Bor (List ℕ)) → List ℕ
joined pieces = flat_map (λ piece. piece.now) pieces

pub joined_snoc : (pieces : List (Bor (List ℕ))) (piece : Bor (List ℕ)) → joined (pieces ++ piece ∷ []) ≡ joined pieces ++ piece.now
joined_snoc pieces piece =
    flat_map-append (λ p. p.now) pieces (piece ∷ []) ∙ ap (λ l. joined pieces ++ l) (append-nil piece.now)

-- with one piece more, and the rest behind it
pub joined_on : (pieces : List (Bor (List ℕ))) (piece : Bor (List ℕ)) (width : ℕ) (rest others : List ℕ)
    → piece.now ≡ take width rest → others ≡ drop width rest
    → joined (pieces ++ piece ∷ []) ++ others ≡ joined pieces ++ rest
joined_on pieces piece width rest others front back =
    ap (λ l. l ++ others) (joined_snoc pieces piece)
    ∙ append_assoc (joined pieces) piece.now others
    ∙ ap (λ l. joined pieces ++ l) (ap (λ l. l ++ others) front ∙ ap (λ l. take width rest ++ l) back ∙ take-append-drop width rest)
