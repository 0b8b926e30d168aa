use Rattle.std.proofs.Common.{◌≡◌, ◌<◌, ℕ, false, get_or, length, take}
use Rattle.flow_link.specs.Rounds.{sets_out}
use Rattle.flow_link.proofs.cycle.lengthen.Given as goal

abbrev pub invariant-loop-link : goal.invariant-loop-link
invariant-loop-link l = (block : ℕ) → block < length l.next → get_or l.next block false ≡ sets_out (take l.link-index l.links) l.end l.row block
