use Rattle.std.proofs.Common.{refl, subst}
use Rattle.flow_board.specs.Gathers.{IsWhyNot}
use Rattle.flow_open.proofs.Opening.{none_missing}
use Rattle.flow_open.proofs.open.run_and_gather.Goals as goal

pub returns-in-Ok-clause-ran : goal.returns-in-Ok-clause-ran
returns-in-Ok-clause-ran g c =
    let ran = c.run_parts-ended.ensures in
    let gathered = c.in-Ok.ensures in
    record {
      after = record { board = c.args.parts.board; tasks = c.run_parts-ended.new.tasks; entries = c.run_parts-ended.new.entries; exits = c.run_parts-ended.new.exits };
      ran = record {
        board = refl;
        tasks = ran.tasks_back;
        entries = ran.entries_of;
        exits = ran.exits_of;
        entries_are = ran.entries_are;
        exits_are = ran.exits_are;
        sends = ran.sends;
        takes_in = ran.takes;
        unmatched = ran.unmatched;
      };
      gathered = record {
        same_layout = gathered.same_layout;
        lawful = gathered.lawful;
        journals = gathered.go_on;
        posted = gathered.posted;
        sent = gathered.entries;
        given = gathered.exits;
      };
      matched = ran.matched;
    }

pub unreachable-requires : goal.unreachable-requires
unreachable-requires g c =
    let ran = c.run_parts-ended.ensures in
    let back = c.in-Err.parts in
    none_missing c.args.parts
    (record { board = c.args.parts.board; tasks = c.run_parts-ended.new.tasks; entries = c.run_parts-ended.new.entries; exits = c.run_parts-ended.new.exits })
    back c.in-Missing.field-0 c.requires.whole refl ran.tasks_back.numbers ran.entries_are ran.exits_are c.in-Err.ensures.back
    (subst (IsWhyNot back) c.in-Missing.is c.in-Err.ensures.why)

pub returns-in-Memory-clause-left : goal.returns-in-Memory-clause-left
returns-in-Memory-clause-left g c =
    let ran = c.run_parts-ended.ensures in
    let refused = c.in-Err.ensures in
    record {
      after = record { board = c.args.parts.board; tasks = c.run_parts-ended.new.tasks; entries = c.run_parts-ended.new.entries; exits = c.run_parts-ended.new.exits };
      ran = record {
        board = refl;
        tasks = ran.tasks_back;
        entries = ran.entries_of;
        exits = ran.exits_of;
        entries_are = ran.entries_are;
        exits_are = ran.exits_are;
        sends = ran.sends;
        takes_in = ran.takes;
        unmatched = ran.unmatched;
      };
      back = refused.back;
      whole = record {
        tasks = refused.tasks_back;
        entries = refused.entries_back;
        exits = refused.exits_back;
        there = subst (IsWhyNot c.in-Err.parts) c.in-Memory.is refused.why;
      };
    }
