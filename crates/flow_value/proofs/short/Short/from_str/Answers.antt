use Rattle.std.proofs.Common.{refl, ap, sym, subst, ◌∙◌, ◌≤◌, length, IsUtf8}
use Rattle.flow_value.specs.Plain.{all_plain}
use Rattle.flow_value.specs.Head.{count_in, says_plain}
use Rattle.flow_value.proofs.PlainFilled.{plain_behind, plain_with, front_is, head_plain, head_other}
use Rattle.flow_value.proofs.short.Short.from_str.Goals as goal
use Rattle.flow_value.proofs.short.Short.from_str.Goals.{then-are_plain, else-are_plain}

pub returns : goal.returns
returns c =
    let few = subst (λ text. length text ≤ 14) (sym c.as_bytes-bytes.ensures.value) c.requires in
    let front = c.copy_from_slice.ensures.after in
    let text = c.as_bytes-bytes.ensures.value in
    let cells = c.copy_from_slice-2.ensures.after in
    elim c.if-are_plain.branch [
      | then-are_plain w ↦ front_is _ 14 _ _ _ _ _ (ap count_in w.head-is ∙ (head_plain _ few).0) front text c.requires cells
      | else-are_plain w ↦ front_is _ 14 _ _ _ _ _ (ap count_in w.head-is ∙ (head_other _ few).0) front text c.requires cells
    ]

pub invariant_of-result : goal.invariant_of-result
invariant_of-result c =
    let few = subst (λ text. length text ≤ 14) (sym c.as_bytes-bytes.ensures.value) c.requires in
    let front = c.copy_from_slice.ensures.after in
    let text = c.as_bytes-bytes.ensures.value in
    let cells = c.copy_from_slice-2.ensures.after in
    let plain = c.are_plain.ensures ∙ plain_with c.copy_from_slice.new.self _ (plain_behind _ (length c.as_bytes-bytes.result.now) refl)
    ∙ ap all_plain (front ∙ text) in
    elim c.if-are_plain.branch [
      | then-are_plain w ↦
          let counts = ap count_in w.head-is ∙ (head_plain _ few).0 in
          let is_content = front_is _ 14 _ _ _ _ _ counts front text c.requires cells in
          record {
            fits = subst (λ n. n ≤ 14) (sym counts) few;
            is_text = subst IsUtf8 (sym is_content) c.utf8.content;
            told = ap says_plain w.head-is ∙ (head_plain _ few).1 ∙ sym w.if-are_plain.true ∙ plain ∙ ap all_plain (sym is_content);
          }
      | else-are_plain w ↦
          let counts = ap count_in w.head-is ∙ (head_other _ few).0 in
          let is_content = front_is _ 14 _ _ _ _ _ counts front text c.requires cells in
          record {
            fits = subst (λ n. n ≤ 14) (sym counts) few;
            is_text = subst IsUtf8 (sym is_content) c.utf8.content;
            told = ap says_plain w.head-is ∙ (head_other _ few).1 ∙ sym w.if-are_plain.false ∙ plain ∙ ap all_plain (sym is_content);
          }
    ]
