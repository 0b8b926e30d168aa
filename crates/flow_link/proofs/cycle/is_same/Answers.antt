use Rattle.std.proofs.Common.{◌∙◌, sym, refl, rules}
use Rattle.std.proofs.lemmas.Slice.Eq.{slice_eq-Decides}
use Rattle.flow_link.proofs.cycle.is_same.Goals as goal

pub returns : goal.returns
returns c =
    let decides = slice_eq-Decides (λ x y. search rules) c.args.row.now c.args.next.now _ refl in
    (λ same. sym (decides.0 (sym c.eq.ensures ∙ same)), λ same. c.eq.ensures ∙ decides.1 (sym same))
