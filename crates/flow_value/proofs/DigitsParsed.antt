-- What `parse` makes of digits, and of digits behind a minus sign; and what a text is by what `parse` made of it.
use Rattle.std.proofs.Common.{◌≡◌, ℕ, ◌<◌, List, [], ◌∷◌, length, drop, slice_index, Bool, true, false, refl, sym, ◌∙◌, ap, rules, cond, ◌&&◌, Decides, Ok, Err, ℤ, pos, negsuc, w64, eqb, subst}
use Rattle.std.specs.Char.{is_ascii_digit}
use Rattle.std.specs.List.{list_all}
use Rattle.std.specs.Prelude.{FitsSigned}
use Rattle.std.specs.Str.Parse.{IsNumeral, without_leading_sign, digits_value, signed_digits_value}
use Rattle.std.proofs.lemmas.Bool.{eqb-true, false≢true, and_parts, cond-false, cond-true, false_from_ne_true}
use Rattle.std.proofs.lemmas.Bool.Decides.{Decides-ltb}
use Rattle.std.proofs.lemmas.Str.Parse.{IsNumeralModel, numerals_by_value}
use Rattle.flow_value.specs.Number.{without_minus, is_digits, is_i64, int_of}
use Rattle.flow_value.specs.declared.work.WorkFault.TheVariants.{NotInt, Range}

pub numerals : IsNumeralModel (λ ds. list_all is_ascii_digit ds ≡ true) (digits_value 10)
numerals = numerals_by_value _ (search rules)

pub is_i64-Decides : (n : ℤ) → Decides (is_i64 n) (FitsSigned w64 n)
is_i64-Decides (pos n) =
    (λ e. record { sfits = (Decides-ltb n 9223372036854775808).0 e }, λ f. (Decides-ltb n 9223372036854775808).1 f.sfits)
is_i64-Decides (negsuc n) =
    (λ e. record { sfits = (Decides-ltb n 9223372036854775808).0 e }, λ f. (Decides-ltb n 9223372036854775808).1 f.sfits)

-- a text that is not empty is all digits where each byte is one
pub all_of_some : (bs : List ℕ) → 0 < length bs → is_digits bs ≡ list_all is_ascii_digit bs
all_of_some bs some = ap (λ b. b && list_all is_ascii_digit bs) ((Decides-ltb 0 (length bs)).1 some)

-- digits behind a minus sign are what `parse` reads behind a sign
pub sign_is_minus : (bs : List ℕ) → is_digits (without_minus bs) ≡ true → without_leading_sign bs ≡ without_minus bs
sign_is_minus [] e = refl
sign_is_minus (c ∷ cs) e = behind (eqb c 45) (eqb c 43) refl refl e
  where
    behind : (minus plus : Bool) → eqb c 45 ≡ minus → eqb c 43 ≡ plus
        → is_digits (cond minus cs (c ∷ cs)) ≡ true
        → cond minus cs (drop (cond plus 1 0) (c ∷ cs)) ≡ cond minus cs (c ∷ cs)
    behind true plus m p digits = refl
    behind false false m p digits = refl
    behind false true m p digits =
        let all : list_all is_ascii_digit (c ∷ cs) ≡ true = (and_parts _ _ digits).1 in
        let first : is_ascii_digit c ≡ true = (and_parts _ _ all).0 in
        let plus : is_ascii_digit 43 ≡ true = subst (λ d. is_ascii_digit d ≡ true) (eqb-true c 43 p) first in
        absurd (false≢true plus)

pub numeral_behind_sign : (bs : List ℕ) → is_digits (without_minus bs) ≡ true → IsNumeral 10 (without_leading_sign bs)
numeral_behind_sign bs e =
    let both = and_parts _ _ e in
    let same = sign_is_minus bs e in
    rw same ((Decides-ltb 0 (length (without_minus bs))).0 both.0, numerals.to (without_minus bs) both.1)

-- digits that do not fit are out of range
pub int_of-over : (bs : List ℕ) → is_digits (without_minus bs) ≡ true → (FitsSigned w64 (signed_digits_value 10 bs) → ⊥)
    → int_of bs ≡ Err Range
int_of-over bs digits over =
    cond-true _ _ _ digits ∙ cond-false _ _ _ (false_from_ne_true _ (λ e. over ((is_i64-Decides (signed_digits_value 10 bs)).0 e)))

-- The other way round

-- behind no plus sign, only a minus sign is a sign
pub minus_alone : (bs : List ℕ) → eqb (slice_index bs 0) 43 ≡ false → without_leading_sign bs ≡ without_minus bs
minus_alone bs none = ap (λ plus. cond (eqb (slice_index bs 0) 45) (drop 1 bs) (drop (cond plus 1 0) bs)) none

module _ (bs : List ℕ) (alone : without_leading_sign bs ≡ without_minus bs) where
  digits_there : IsNumeral 10 (without_leading_sign bs) → is_digits (without_minus bs) ≡ true
  digits_there there =
      let digits : IsNumeral 10 (without_minus bs) = subst (λ ds. IsNumeral 10 ds) alone there in
      all_of_some (without_minus bs) digits.0 ∙ numerals.from (without_minus bs) digits.1

  -- what is a numeral and fits is the number
  pub int_of-number : IsNumeral 10 (without_leading_sign bs) → FitsSigned w64 (signed_digits_value 10 bs)
      → int_of bs ≡ Ok (signed_digits_value 10 bs)
  int_of-number there fits =
      cond-true _ _ _ (digits_there there) ∙ cond-true _ _ _ ((is_i64-Decides (signed_digits_value 10 bs)).1 fits)

  -- what is none, or does not fit, is out of range where it is digits
  pub int_of-none : (IsNumeral 10 (without_leading_sign bs) × FitsSigned w64 (signed_digits_value 10 bs) → ⊥)
      → Err (cond (is_digits (without_minus bs)) Range NotInt) ≡ int_of bs
  int_of-none unfit = by_digits (is_digits (without_minus bs)) refl
    where
      by_digits : (digits : Bool) → is_digits (without_minus bs) ≡ digits → Err (cond digits Range NotInt) ≡ int_of bs
      by_digits true e = sym (int_of-over bs e (λ fits. unfit (numeral_behind_sign bs e, fits)))
      by_digits false e = sym (cond-false _ _ _ e)
