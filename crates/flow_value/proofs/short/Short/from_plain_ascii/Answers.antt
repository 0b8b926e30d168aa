use Rattle.std.proofs.Common.{◌≡◌, ◌≤◌, true, length, refl, ap, sym, subst, ◌∙◌, arith, IsUtf8}
use Rattle.std.proofs.lemmas.Str.{IsUtf8-from_ascii}
use Rattle.flow_value.specs.Plain.{all_plain, all_plain_ascii}
use Rattle.flow_value.proofs.PlainFilled.{front_is, head_plain, ascii_front, ascii_plain, ascii_is}
use Rattle.flow_value.proofs.short.Short.from_plain_ascii.Goals as goal

pub invariant_of-result : goal.invariant_of-result
invariant_of-result c =
    let bytes = c.args.bytes.now in
    let few : length bytes ≤ 14 = omega (arith, c.if-bytes-gt-MOST.false) in
    let front = c.copy_from_slice.ensures.after in
    let all : all_plain_ascii bytes ≡ true =
    ap all_plain_ascii (sym front) ∙ ascii_front c.copy_from_slice.new.self _ (sym c.are_plain_ascii.ensures ∙ c.if-not-are_plain_ascii.false) in
    let is_content = front_is _ 14 _ bytes _ _ bytes (head_plain _ few).0 front refl few c.copy_from_slice-2.ensures.after in
    record {
      fits = subst (λ n. n ≤ 14) (sym (head_plain _ few).0) few;
      is_text = subst IsUtf8 (sym is_content) (IsUtf8-from_ascii bytes (ascii_is bytes all));
      told = (head_plain _ few).1 ∙ sym (ascii_plain bytes all) ∙ ap all_plain (sym is_content);
    }

pub returns-clause-is : goal.returns-clause-is
returns-clause-is c =
    let bytes = c.args.bytes.now in
    let few : length bytes ≤ 14 = omega (arith, c.if-bytes-gt-MOST.false) in
    front_is _ 14 _ bytes _ _ bytes (head_plain _ few).0 c.copy_from_slice.ensures.after refl few c.copy_from_slice-2.ensures.after

pub returns-clause-utf8 : goal.returns-clause-utf8
returns-clause-utf8 c =
    let bytes = c.args.bytes.now in
    let all : all_plain_ascii bytes ≡ true =
    ap all_plain_ascii (sym c.copy_from_slice.ensures.after)
    ∙ ascii_front c.copy_from_slice.new.self _ (sym c.are_plain_ascii.ensures ∙ c.if-not-are_plain_ascii.false) in
    IsUtf8-from_ascii bytes (ascii_is bytes all)
