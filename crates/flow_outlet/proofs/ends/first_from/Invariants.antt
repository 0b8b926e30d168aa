use Rattle.std.proofs.Common.{◌≡◌, ◌+◌, drop}
use Rattle.std.specs.Option.{option_copied}
use Rattle.flow_outlet.specs.End.{place_in}
use Rattle.flow_outlet.proofs.ends.first_from.Given as goal

abbrev pub invariant-loop-place : goal.invariant-loop-place
invariant-loop-place l =
    l.place + place_in l.next (option_copied l.head) (drop l.place l.ends)
    ≡ l.fn.from + place_in l.next (option_copied l.head) (drop l.fn.from l.ends)
