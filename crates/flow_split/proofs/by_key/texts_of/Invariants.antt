use Rattle.std.proofs.Common.{◌≡◌, length}
use Rattle.flow_split.proofs.by_key.texts_of.Given as goal

abbrev pub invariant-parts : goal.invariant-parts
invariant-parts l = length l.pieces.items ≡ l.part-index
