use Rattle.std.proofs.Common.{◌≡◌, ℕ, ◌<◌, ◌==◌, false}
use Rattle.flow_intake.specs.Port.{link_in}
use Rattle.flow_kinds.proofs.wishes.place_in.Given as goal

-- no earlier end is the link's
abbrev pub invariant-loop-place : goal.invariant-loop-place
invariant-loop-place l = (k : ℕ) → k < l.place → (link_in k l.port.ends == l.link) ≡ false
