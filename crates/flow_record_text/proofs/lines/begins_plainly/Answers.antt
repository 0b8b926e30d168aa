use Rattle.std.proofs.Common.{rules, ◌≡◌, ◌<◌, length, nat_eq, get_or, false}
use Rattle.flow_record_text.proofs.LinesRead.{plain-start}
use Rattle.flow_record_text.proofs.lines.begins_plainly.Goals as goal

pub returns-then-not-is_empty-clause-plain : goal.returns-then-not-is_empty-clause-plain
returns-then-not-is_empty-clause-plain g c = λ is.
    let some : 0 < length c.in-Ok.bytes.now = search rules in
    let other : nat_eq (get_or c.in-Ok.bytes.now 0 0) 239 ≡ false = search rules in
    plain-start _ c.in-Ok.bytes.now c.in-Ok.ensures.front some other
