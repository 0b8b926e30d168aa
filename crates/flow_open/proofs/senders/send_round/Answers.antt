use Rattle.std.proofs.Common.{◌<◌, length, arith, refl, ◌∙◌}
use Rattle.std.proofs.lemmas.Grind.{common_steps}
use Rattle.flow_open.proofs.Each.{each_sends_at, each_sends_none}
use Rattle.flow_open.proofs.Parts.{entries_set, entry_numbers_set, entry_of}
use Rattle.flow_open.proofs.senders.send_round.Goals as goal

pub loop-place-init : goal.loop-place-init
loop-place-init g c = record {
  of = c.requires.of;
  numbers = refl;
  sends = each_sends_none _ _ _;
}

pub go_on-requires-clause-of : goal.go_on-requires-clause-of
go_on-requires-clause-of g c =
    let count = c.loop-place.invariant.sends.count in
    let low : c.loop-place.place < length c.loop-place.entries.items = grind (arith, common_steps, count) in
    entry_of c.args.board.now c.loop-place.entries.items c.loop-place.place c.index_mut.result.now c.loop-place.invariant.of low
    c.index_mut.ensures.value

pub loop-place-preserved : goal.loop-place-preserved
loop-place-preserved g c =
    let inv = c.loop-place.invariant in
    let count = inv.sends.count in
    let others = inv.sends.other_count in
    let low : c.loop-place.place < length c.loop-place.entries.items = grind (arith, common_steps, count) in
    let beside : c.loop-place.place < length c.loop-place.senders.items = grind (arith, common_steps, others) in
    record {
      of = entries_set c.args.board.now c.loop-place.entries.items c.loop-place.place c.go_on.new.entry inv.of
          (c.go_on.ensures.of
          ∙ entry_of c.args.board.now c.loop-place.entries.items c.loop-place.place c.index_mut.result.now inv.of low c.index_mut.ensures.value);
      numbers = entry_numbers_set c.loop-place.entries.items c.loop-place.place c.index_mut.result.now c.go_on.new.entry c.index_mut.ensures.value
          c.go_on.ensures.number ∙ inv.numbers;
      sends = each_sends_at _ _ c.loop-place.entries.items _ c.loop-place.senders.items c.loop-place.place c.index_mut.result.now c.go_on.new.entry
          c.index_mut-in-loop-place.result.now c.go_on.new.sender inv.sends low beside c.index_mut.ensures.value
          c.index_mut-in-loop-place.ensures.value c.go_on.ensures.sends;
    }
