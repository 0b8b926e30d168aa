use Rattle.std.proofs.Common.{◌≡◌, [], replicate}
use Rattle.flow_link.specs.declared.trace.Ending.TheVariants.{Complete}
use Rattle.flow_record_text.specs.Records.{posted_values, posted_endings}
use Rattle.flow_record_text.proofs.records.nothing_posted.Given as goal

abbrev pub invariant-loop : goal.invariant-loop
invariant-loop l = record {
  values : posted_values l.posted.items ≡ replicate l.counter [];
  endings : posted_endings l.posted.items ≡ replicate l.counter Complete;
}
