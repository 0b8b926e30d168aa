use Rattle.std.proofs.Common.{◌<◌, length, arith, refl, ◌∙◌}
use Rattle.std.proofs.lemmas.Grind.{common_steps}
use Rattle.flow_open.proofs.Each.{each_takes_at, each_takes_none}
use Rattle.flow_open.proofs.Parts.{exit_numbers_set, exit_of, exits_set}
use Rattle.flow_open.proofs.receivers.receive_round.Goals as goal

pub loop-place-init : goal.loop-place-init
loop-place-init g c = record {
  of = c.requires.of;
  numbers = refl;
  takes = each_takes_none _ _ _;
}

pub receive-requires-clause-of : goal.receive-requires-clause-of
receive-requires-clause-of g c =
    let count = c.loop-place.invariant.takes.count in
    let low : c.loop-place.place < length c.loop-place.exits.items = grind (arith, common_steps, count) in
    exit_of c.args.board.now c.loop-place.exits.items c.loop-place.place c.index_mut.result.now c.loop-place.invariant.of low
    c.index_mut.ensures.value

pub loop-place-preserved : goal.loop-place-preserved
loop-place-preserved g c =
    let inv = c.loop-place.invariant in
    let count = inv.takes.count in
    let others = inv.takes.other_count in
    let low : c.loop-place.place < length c.loop-place.exits.items = grind (arith, common_steps, count) in
    let beside : c.loop-place.place < length c.loop-place.receivers.items = grind (arith, common_steps, others) in
    record {
      of = exits_set c.args.board.now c.loop-place.exits.items c.loop-place.place c.receive.new.exit inv.of
          (c.receive.ensures.of
          ∙ exit_of c.args.board.now c.loop-place.exits.items c.loop-place.place c.index_mut.result.now inv.of low c.index_mut.ensures.value);
      numbers = exit_numbers_set c.loop-place.exits.items c.loop-place.place c.index_mut.result.now c.receive.new.exit c.index_mut.ensures.value
          c.receive.ensures.number ∙ inv.numbers;
      takes = each_takes_at _ _ c.loop-place.exits.items _ c.loop-place.receivers.items c.loop-place.place c.index_mut.result.now c.receive.new.exit
          c.index_mut-in-loop-place.result.now c.receive.new.take inv.takes low beside c.index_mut.ensures.value
          c.index_mut-in-loop-place.ensures.value c.receive.ensures.takes;
    }
