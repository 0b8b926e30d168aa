use Rattle.std.proofs.Common.{◌≡◌, ◌<◌, ◌≤◌, ◌+◌, ◌∷◌, [], ◌++◌, get_or, length, arith, subst, length-append}
use Rattle.flow_link.specs.declared.trace.Mark.{Mark}
use Rattle.flow_block.proofs.GroupNoted.{noted_took, noted_other, noted_whole}
use Rattle.flow_block.proofs.groups.note_first.Goals as goal
use Rattle.flow_block.proofs.groups.note_first.Goals.{in-Took, in_default}

pub loop-place-preserved : goal.loop-place-preserved
loop-place-preserved c =
    let journal = c.args.journal.now in
    let place = c.loop-place.place in
    let old = c.loop-place.order in
    let more : length old.ports < c.args.count = omega (arith, c.if-len-count.true, c.len.ensures) in
    let there = c.loop-place-test.true in
    let so_far = c.loop-place.invariant.0 in
    elim c.match-journal-place.branch [
      | in-Took w ↦
          let mark = w.in-Took in
          let is = subst (λ (mark : Mark). mark ≡ get_or journal place mark) mark.is c.index-journal-place.is in
          let longer : length (old.ports ++ mark.port ∷ []) ≡ length old.ports + 1 = length-append old.ports (mark.port ∷ []) in
          rw (w.order-is, w.note.ensures)
          (noted_took journal c.args.from c.args.count old.ports place so_far more there mark.port _ _ is, omega (arith, c.loop-place.invariant.1, longer))
      | in_default w ↦
          rw w.order-is (
            noted_other journal c.args.from c.args.count old.ports place so_far more there c.index-journal-place.result
                w.in_default.not-Took c.index-journal-place.is,
            c.loop-place.invariant.1,
          )
    ]

pub returns-else-len-count-clause-behind : goal.returns-else-len-count-clause-behind
returns-else-len-count-clause-behind c =
    let enough : c.args.count ≤ length c.loop-place.order.ports = omega (arith, c.if-len-count.false, c.len.ensures) in
    (noted_whole c.args.journal.now c.args.from c.args.count c.loop-place.order.ports c.loop-place.place c.loop-place.invariant.0 enough).marks
