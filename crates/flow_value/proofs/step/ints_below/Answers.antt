use Rattle.std.proofs.Common.{◌≡◌, [], ◌∷◌, ◌++◌, ap, ◌∙◌, arith, pos}
use Rattle.std.proofs.lemmas.Int.{ints}
use Rattle.flow_value.proofs.WordsGrow.{ints_below-push}
use Rattle.flow_value.specs.declared.value.Value.TheVariants.{Int}
use Rattle.flow_value.proofs.step.ints_below.Goals as goal
use mir.Syntax.{w64}
use mir.Val.{to_z, of_z}

pub loop-number-preserved : goal.loop-number-preserved
loop-number-preserved c =
    let number = c.loop-number.number in
    let widened : to_z w64 (of_z w64 c.from-in-loop-number.result) ≡ pos number = omega (arith, ints) in
    c.in_ok-push.ensures.items ∙ ap (λ n. c.loop-number.values.items ++ Int n ∷ []) widened
    ∙ ap (λ values. values ++ Int (pos number) ∷ []) c.loop-number.invariant ∙ ints_below-push number
