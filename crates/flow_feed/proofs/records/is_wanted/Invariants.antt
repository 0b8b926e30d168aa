use Rattle.std.proofs.Common.{take}
use Rattle.csv.specs.Records.{fields_of}
use Rattle.flow_feed.specs.Sends.{HasAll}
use Rattle.flow_feed.proofs.records.is_wanted.Given as goal

abbrev pub invariant-tests : goal.invariant-tests
invariant-tests l = HasAll (fields_of l.row.row.now) l.row.digits.now (take l.test-index l.choice.tests.items)
