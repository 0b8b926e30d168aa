-- Where a reader of CSV stands, in the words of the machine that reads records.
use Rattle.std.specs.Prelude.{ℕ}
use Rattle.csv.specs.Machine.{step}
use Rattle.csv.specs.Reading.{default_config}
use Rattle.csv.specs.declared.parser.State.{State}
use Rattle.csv.specs.declared.parser.State.TheVariants as machine
use Rattle.flow_feed.specs.declared.stand.Stand.{Stand}
use Rattle.flow_feed.specs.declared.stand.Stand.TheVariants as stand

-- where the machine stands
abbrev pub state_of : Stand → State
state_of stand.StartRecord = machine.StartRecord
state_of stand.StartField = machine.StartField
state_of stand.InField = machine.InField
state_of stand.InQuoted = machine.InQuoted
state_of stand.AfterQuote = machine.AfterQuote
state_of stand.AfterCr = machine.AfterCr

-- where it stands behind one more byte
abbrev pub state_after : State → ℕ → State
state_after state byte = (step default_config state byte).0
