-- The links over which the tests hand values on.
use Rattle.std.specs.Prelude.{Bool, true, false, [], None}
use Rattle.flow_link.specs.Views.{SourceStage, TargetStage, LinkFacts}
use Rattle.flow_wire.specs.Ends.{Start}

-- the target may put messages off, and reserves them or not
abbrev pub facts_of : Bool → LinkFacts
facts_of reserving = record { steady = false; sole = false; reserving = reserving; max = None; propagates = true }

-- nothing is under way, and nothing has crossed
abbrev pub start_of : Bool → Start
start_of reserving = record {
  facts = facts_of reserving;
  source = record { before = 0; given = []; last = 0; stage = SourceStage.free };
  target = record { before = 0; taken = []; stage = TargetStage.free };
}
