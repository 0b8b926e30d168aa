use Rattle.std.proofs.Common.{◌≡◌, take}
use Rattle.flow_value.specs.Plain.{all_plain_ascii}
use Rattle.flow_value.proofs.plain.are_plain_ascii.Given as goal

abbrev pub invariant-loop-byte : goal.invariant-loop-byte
invariant-loop-byte l = l.plain ≡ all_plain_ascii (take l.byte-index l.bytes)
