-- The links over which messages are timed.
use Rattle.std.specs.Prelude.{false, [], None}
use Rattle.flow_link.specs.Views.{SourceStage, TargetStage}
use Rattle.flow_wire.specs.Ends.{Start}

-- nothing is under way, and nothing has crossed
abbrev pub fresh : Start
fresh = record {
  facts = record { steady = false; sole = false; reserving = false; max = None; propagates = false };
  source = record { before = 0; given = []; last = 0; stage = SourceStage.free };
  target = record { before = 0; taken = []; stage = TargetStage.free };
}
