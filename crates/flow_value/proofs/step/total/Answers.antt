use Rattle.std.proofs.Common.{◌≡◌, ◌+◌, [], ◌∷◌, ◌++◌, take, ap, sym, ◌∙◌, arith, rules, ◌+ℤ◌}
use Rattle.std.proofs.lemmas.Int.{ints}
use Rattle.std.proofs.lemmas.List.{take_more}
use Rattle.flow_value.specs.Step.{numbers_of, summed}
use Rattle.flow_value.specs.declared.value.Value.TheVariants.{Int}
use Rattle.flow_value.proofs.WordsGrow.{numbers_of-push, numbers_of-other, total_of-push}
use Rattle.flow_value.proofs.step.total.Goals as goal
use mir.Syntax.{w64, w128}
use mir.Val.{SFits, to_z, of_z}

pub returns-in_default : goal.returns-in_default
returns-in_default c =
    ap summed (sym (numbers_of-other c.args.items.now c.loop-item.item-index c.item-item.result c.loop-item-test.true c.item-item.is
    c.in_default.not-Int))

pub loop-item-preserved : goal.loop-item-preserved
loop-item-preserved c =
    let so_far = c.loop-item.invariant.0 in
    let at = c.loop-item.item-index in
    let number = c.in-Int.number in
    let before = to_z w128 c.loop-item.total-bits in
    let small : SFits w64 number = search rules in
    let widened : c.from-total.result ≡ number = omega (arith, ints) in
    let added : to_z w128 (of_z w128 (before +ℤ to_z w128 (of_z w128 c.from-total.result))) ≡ before +ℤ number = omega (arith, ints) in
    let one_more : take (at + 1) c.args.items.now ≡ take at c.args.items.now ++ Int number ∷ [] =
    take_more c.args.items.now at c.item-item.result c.loop-item-test.true
    ∙ ap (λ v. take at c.args.items.now ++ v ∷ []) (sym c.item-item.is ∙ c.in-Int.is) in (
      (
        so_far.0 ++ number ∷ [],
        ap numbers_of one_more ∙ numbers_of-push (take at c.args.items.now) number so_far.0 so_far.1,
        added ∙ ap (λ n. n +ℤ number) so_far.2 ∙ sym (total_of-push so_far.0 number),
      ),
      omega (arith, ints),
      omega (arith, ints),
    )
