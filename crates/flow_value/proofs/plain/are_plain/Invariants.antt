use Rattle.std.proofs.Common.{◌≡◌, take}
use Rattle.flow_value.specs.Plain.{all_plain}
use Rattle.flow_value.proofs.plain.are_plain.Given as goal

abbrev pub invariant-loop-byte : goal.invariant-loop-byte
invariant-loop-byte l = l.plain ≡ all_plain (take l.byte-index l.bytes)
