use Rattle.std.proofs.Common.{◌&&◌, take, ap, sym, ◌∙◌}
use Rattle.flow_value.specs.Plain.{all_plain_ascii}
use Rattle.flow_value.proofs.PlainGrows.{ascii-more}
use Rattle.flow_value.proofs.plain.are_plain_ascii.Goals as goal

pub loop-byte-preserved : goal.loop-byte-preserved
loop-byte-preserved c =
    let bytes = c.args.bytes.now in
    let at = c.loop-byte.byte-index in
    ap (λ so_far. so_far && c.is_plain_ascii-plain.result) c.loop-byte.invariant
    ∙ ap (λ last. all_plain_ascii (take at bytes) && last) c.is_plain_ascii-plain.ensures
    ∙ sym (ascii-more bytes at c.loop-byte-test.true)
