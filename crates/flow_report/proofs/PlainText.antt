-- A plain text is printed as it is.
use Rattle.std.proofs.Common.{◌≡◌, ℕ, List, [], ◌∷◌, ◌++◌, refl, ap, ◌∙◌, rules}
use Rattle.std.specs.Prelude.{IsTrue}
use Rattle.std.proofs.lemmas.Bool.{and_parts}
use Rattle.flow_value.specs.Plain.{is_plain_byte, all_plain}
use Rattle.flow_report.specs.Printed.{escaped, escapes}

-- a plain byte is printed as it is, and no other one
pub plain_is : (byte : ℕ) → (IsTrue (is_plain_byte byte) → escaped byte ≡ byte ∷ []) × (escaped byte ≡ byte ∷ [] → IsTrue (is_plain_byte byte))
plain_is byte = search rules

pub plain_text : (text : List ℕ) → IsTrue (all_plain text) → escapes text ≡ text
plain_text [] plain = refl
plain_text (byte ∷ bytes) plain =
    let both = and_parts (is_plain_byte byte) (all_plain bytes) plain in
    ap (λ front. front ++ escapes bytes) ((plain_is byte).0 both.0) ∙ ap (λ rest. byte ∷ rest) (plain_text bytes both.1)
