use Rattle.std.proofs.Common.{rules, ◌≡◌, true, get_or, arith}
use Rattle.flow_record_text.specs.Lines.{is_ordinary}
use Rattle.flow_record_text.proofs.PlainLines.{ordinary-more}
use Rattle.flow_record_text.proofs.lines.field_end.Goals as goal

pub loop-place-init : goal.loop-place-init
loop-place-init c = record { after = search rules; within = c.requires; ordinary = λ j low high. absurd (omega (arith, low, high)) }

pub loop-place-preserved : goal.loop-place-preserved
loop-place-preserved c =
    let kept = c.loop-place.invariant in
    let here : is_ordinary (get_or c.args.bytes.now c.loop-place.place 0) ≡ true = search rules in
    record { after = search rules; within = search rules; ordinary = ordinary-more c.args.bytes.now c.args.from c.loop-place.place kept.ordinary here }
