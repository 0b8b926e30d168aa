use Rattle.std.proofs.Common.{◌≡◌, true, sym, ◌∙◌}
use Rattle.flow_value.specs.Number.{is_digits}
use Rattle.flow_cli.proofs.DigitsAlone.{number_of-refused}
use Rattle.flow_cli.proofs.number.read_number.Goals as goal

pub returns-in-Err : goal.returns-in-Err
returns-in-Err c =
    let digits : is_digits c.args.text.now ≡ true = sym c.is_digits.ensures ∙ c.if-not-is_digits.false in
    number_of-refused c.args.text.now c.in-Err.field-0 digits c.in-Err.ensures.value.0
