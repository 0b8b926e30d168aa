-- Whether all of some bytes are plain, as one more is looked at.
use Rattle.std.proofs.Common.{◌≡◌, ℕ, ◌+◌, ◌<◌, ◌&&◌, List, [], ◌∷◌, ◌++◌, length, take, get_or, ap, sym, ◌∙◌}
use Rattle.std.proofs.Math.Bool.{and-true, true-and, and_assoc}
use Rattle.std.proofs.lemmas.List.{take_more}
use Rattle.flow_value.specs.Plain.{is_plain_byte, all_plain, is_plain_ascii, all_plain_ascii}

plain-append : (bytes : List ℕ) (last : ℕ) → all_plain (bytes ++ last ∷ []) ≡ (all_plain bytes && is_plain_byte last)
plain-append [] last = and-true (is_plain_byte last) ∙ sym (true-and (is_plain_byte last))
plain-append (byte ∷ bytes) last =
    ap (λ rest. is_plain_byte byte && rest) (plain-append bytes last)
    ∙ sym (and_assoc (is_plain_byte byte) (all_plain bytes) (is_plain_byte last))

pub plain-more : (bytes : List ℕ) (at : ℕ) → at < length bytes
    → all_plain (take (at + 1) bytes) ≡ (all_plain (take at bytes) && is_plain_byte (get_or bytes at 0))
plain-more bytes at within = ap all_plain (take_more bytes at 0 within) ∙ plain-append (take at bytes) (get_or bytes at 0)

ascii-append : (bytes : List ℕ) (last : ℕ) → all_plain_ascii (bytes ++ last ∷ []) ≡ (all_plain_ascii bytes && is_plain_ascii last)
ascii-append [] last = and-true (is_plain_ascii last) ∙ sym (true-and (is_plain_ascii last))
ascii-append (byte ∷ bytes) last =
    ap (λ rest. is_plain_ascii byte && rest) (ascii-append bytes last)
    ∙ sym (and_assoc (is_plain_ascii byte) (all_plain_ascii bytes) (is_plain_ascii last))

pub ascii-more : (bytes : List ℕ) (at : ℕ) → at < length bytes
    → all_plain_ascii (take (at + 1) bytes) ≡ (all_plain_ascii (take at bytes) && is_plain_ascii (get_or bytes at 0))
ascii-more bytes at within = ap all_plain_ascii (take_more bytes at 0 within) ∙ ascii-append (take at bytes) (get_or bytes at 0)
