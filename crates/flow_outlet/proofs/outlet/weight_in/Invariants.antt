use Rattle.std.proofs.Common.{◌≡◌, ◌+◌, drop}
use Rattle.flow_outlet.specs.Fits.{weight_of}
use Rattle.flow_outlet.proofs.outlet.weight_in.Given as goal

abbrev pub invariant-loop-place : goal.invariant-loop-place
invariant-loop-place l = l.total + weight_of (drop l.place l.groups.items) ≡ weight_of l.groups.items
