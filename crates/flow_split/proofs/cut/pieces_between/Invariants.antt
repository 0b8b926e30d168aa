use Rattle.std.proofs.Common.{◌≡◌, ◌++◌, length, flat_map}
use Rattle.flow_split.proofs.cut.pieces_between.Given as goal

abbrev pub invariant-places : goal.invariant-places
invariant-places l = (flat_map (λ piece. piece.now) l.pieces.items ++ l.rest ≡ l.fn.records)
    × (length l.pieces.items ≡ l.place-index)
