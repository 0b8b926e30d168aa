use Rattle.std.proofs.Common.{◌≡◌, ◌<◌, length, get_or, arith, ap, sym, ◌∙◌, refl}
use Rattle.flow_value.specs.View.{items_from, values_of, values_of-is}
use Rattle.flow_value.proofs.RowsDiffer.{boxed_values, values_differ}
use Rattle.flow_value.proofs.value.+same.Goals as goal

pub Row::is_same-returns-then-len : goal.Row::is_same-returns-then-len
Row::is_same-returns-then-len t c = (
  λ h. cc,
  λ e. absurd (c.if-len.true (c.len.ensures.count ∙ ap (λ row. length (values_of row)) e ∙ sym c.len-2.ensures.count)),
)

pub Row::is_same-loop-at-init : goal.Row::is_same-loop-at-init
Row::is_same-loop-at-init t c =
    let mine = boxed_values c.deref.result.now c.self.inside.items.value c.args.self.now c.deref.ensures c.self.view_is in
    let theirs = values_of-is c.other.inside.items.value.items c.args.other.now c.other.view_is in
    record {
      same_length = ap length (c.deref-item-items.ensures.value ∙ mine) ∙ sym c.len.ensures.count ∙ c.if-len.false
          ∙ c.len-2.ensures.count ∙ sym (ap length theirs);
      same_so_far = refl;
    }

pub Row::is_same-returns-then-not-is_same : goal.Row::is_same-returns-then-not-is_same
Row::is_same-returns-then-not-is_same t c =
    let differ : c.item-item.result ≡ c.index.result.now → ⊥ = λ e. let was_true = c.is_same.ensures.1 e in cc in
    let mine = ap (λ v. items_from v.items) c.deref.ensures ∙ c.self.view_is in
    let theirs = ap (λ v. get_or v.items c.loop-at.at c.index.result.now) c.deref-in-loop-at.ensures in
    let within : c.loop-at.at < length c.other.inside.items.value.items = omega arith in (
      λ h. cc,
      λ e. absurd (values_differ c.deref-item-items.result.now c.other.inside.items.value.items c.args.self.now c.args.other.now
          (ap items_from c.deref-item-items.ensures.value ∙ mine) c.other.view_is
          c.loop-at.at c.item-item.result c.index.result.now c.item-item.is (c.index.ensures ∙ theirs) within differ e),
    )
