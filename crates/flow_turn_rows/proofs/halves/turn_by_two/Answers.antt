use Rattle.std.proofs.Common.{◌/◌}
use Rattle.flow_turn_rows.proofs.TasksOf.{front_of, back_of, whole_of}
use Rattle.flow_turn_rows.proofs.halves.turn_by_two.Goals as goal

pub turn_on-requires-clause-first : goal.turn_on-requires-clause-first
turn_on-requires-clause-first g c κs within = front_of c.args.board.now (c.len.result / 2) c.args.tasks.items c.split_off.new.self.items c.in-Ok.ensures.items c.requires.of

pub turn_on-requires-clause-second : goal.turn_on-requires-clause-second
turn_on-requires-clause-second g c κs within = back_of c.args.board.now (c.len.result / 2) c.args.tasks.items c.in-Ok.second.items c.in-Ok.ensures.tail c.requires.of

pub returns : goal.returns
returns g c = record {
  of = whole_of c.args.board.now c.turn_on.new.first.items c.turn_on.new.second.items c.append.new.self.items c.in-Ok-append.ensures.items
      c.turn_on.ensures.first c.turn_on.ensures.second;
}
