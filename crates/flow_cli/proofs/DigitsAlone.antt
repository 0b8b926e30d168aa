-- What `parse` makes of digits alone.
use Rattle.std.proofs.Common.{◌≡◌, ℕ, ◌<◌, ◌^◌, List, length, true, ◌∙◌, ap, cond, Err, Some, None, sym}
use Rattle.std.specs.Str.Parse.{digits_value, ParsesUnsigned}
use Rattle.std.proofs.lemmas.Bool.{and_parts, false_from_ne_true}
use Rattle.std.proofs.lemmas.Bool.Decides.{Decides-ltb}
use Rattle.std.proofs.lemmas.Str.Parse.{parse_digits}
use Rattle.flow_value.specs.Number.{is_digits}
use Rattle.flow_value.proofs.DigitsParsed.{numerals}
use Rattle.flow_cli.specs.Number.{in_64_bits, number_of}

-- digits that `parse` refuses are past 64 bits
pub number_of-refused : {E : Type 0} (bs : List ℕ) (error : E) → is_digits bs ≡ true → ParsesUnsigned 64 10 bs (Err error) → None ≡ number_of bs
number_of-refused bs error digits refused =
    let both = and_parts _ _ digits in
    let some : 0 < length bs = (Decides-ltb 0 (length bs)).0 both.0 in
    let over : digits_value 10 bs < 2 ^ 64 → ⊥ = λ fits. parse_digits numerals 64 bs (Err error) refused both.1 (some, fits) in
    let none : number_of bs ≡ None =
    ap (λ b. cond b (in_64_bits (digits_value 10 bs)) None) digits
    ∙ ap (λ b. cond b (Some (digits_value 10 bs)) None) (false_from_ne_true _ (λ e. over ((Decides-ltb (digits_value 10 bs) (2 ^ 64)).0 e))) in
    sym none
