use Rattle.std.proofs.Common.{Ok, Err, ℤ, sym, ◌∙◌, ap, subst, rules, w64}
use Rattle.std.specs.Prelude.{FitsSigned}
use Rattle.std.proofs.lemmas.Int.{to_z-of_z}
use Rattle.flow_value.proofs.DigitsParsed.{minus_alone, int_of-number, int_of-none}
use Rattle.flow_value.proofs.number.read_int.Goals as goal

pub returns-in-Ok : goal.returns-in-Ok
returns-in-Ok c =
    let text = c.args.text.now in
    let alone = minus_alone text (search rules) in
    let told = c.in-Ok.ensures.value in
    let fits = subst (λ (n : ℤ). FitsSigned w64 n) (sym told.0.1) told.0.0.1 in
    ap Ok (to_z-of_z w64 c.in-Ok.number fits ∙ told.0.1) ∙ sym (int_of-number text alone told.0.0.0 told.0.0.1)

pub returns-in-Err : goal.returns-in-Err
returns-in-Err c =
    let text = c.args.text.now in
    let alone = minus_alone text (search rules) in
    ap Err c.fault_in.ensures ∙ int_of-none text alone c.in-Err.ensures.value.0
