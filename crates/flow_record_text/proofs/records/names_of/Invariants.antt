use Rattle.std.proofs.Common.{◌≡◌, take}
use Rattle.flow_record_text.specs.Records.{input_names, texts_of}
use Rattle.flow_record_text.proofs.records.names_of.Given as goal

abbrev pub invariant-loop-number : goal.invariant-loop-number
invariant-loop-number l = texts_of l.names.items ≡ input_names (take l.number l.plan.blocks.items)
