-- A short text with plain bytes behind it: where the text stands, and whether all of it is plain.
use Rattle.std.proofs.Common.{arith, refl, ap, sym, subst, ◌∙◌, ◌≡◌, ◌≤◌, ◌+◌, ◌&&◌, ltb, ltb-true, Bool, true, false, ℕ, zero, suc, List, [], ◌∷◌, ◌++◌, length, take, drop}
use Rattle.std.proofs.lemmas.Bool.{le-leb, lt-leb}
use Rattle.std.proofs.lemmas.List.{take-take, take_at}
use Rattle.std.proofs.Math.Nat.{mod-eq_of_lt}
use Rattle.flow_value.specs.Plain.{is_plain_byte, all_plain, is_plain_ascii, all_plain_ascii}
use Rattle.std.specs.Str.{IsAscii}
use Rattle.flow_value.specs.Head.{count_in, says_plain, bytes_in}

second : (a b : Bool) → (a && b) ≡ true → b ≡ true
second true b both = both
second false true both = refl
second false false both = both

-- what is behind plain bytes in a list of them is plain
pub plain_behind : (bytes : List ℕ) (n : ℕ) → all_plain bytes ≡ true → all_plain (drop n bytes) ≡ true
plain_behind bytes zero plain = plain
plain_behind [] (suc n) plain = refl
plain_behind (byte ∷ bytes) (suc n) plain = plain_behind bytes n (second (is_plain_byte byte) (all_plain bytes) plain)

-- with plain bytes behind them bytes are all plain where they are without
pub plain_with : (bytes back : List ℕ) → all_plain back ≡ true → all_plain (bytes ++ back) ≡ all_plain bytes
plain_with [] back plain = plain
plain_with (byte ∷ bytes) back plain = ap (λ rest. is_plain_byte byte && rest) (plain_with bytes back plain)

-- a text at the beginning of its cells is what they have of it
pub front_is : (head most : ℕ) (cells text front back content : List ℕ) → count_in head ≡ length text → front ≡ text → text ≡ content
    → length content ≤ most → cells ≡ take most (front ++ back) → bytes_in head cells ≡ content
front_is head most cells text front back content counts is_front is_text fits is_cells =
    let there = is_front ∙ is_text in
    ap (λ n. take n cells) (counts ∙ sym (ap length is_front)) ∙ ap (take (length front)) is_cells
    ∙ take-take (length front) most (front ++ back) (subst (λ bytes. length bytes ≤ most) (sym there) fits)
    ∙ take_at front back (length front) refl ∙ there

-- the two heads of so many bytes, of which there are few
pub head_plain : (n : ℕ) → n ≤ 14 → (count_in (n + 128) ≡ n) × (says_plain (n + 128) ≡ true)
head_plain n few = (omega arith, le-leb 128 (n + 128) (omega arith))

pub head_other : (n : ℕ) → n ≤ 14 → (count_in n ≡ n) × (says_plain n ≡ false)
head_other n few = (mod-eq_of_lt (omega arith), lt-leb 128 n (omega arith))

-- Plain bytes that are ASCII

both_parts : (a b : Bool) → (a && b) ≡ true → (a ≡ true) × (b ≡ true)
both_parts true b both = (refl, both)
both_parts false true both = absurd (cc)
both_parts false false both = absurd (cc)

-- the first of a list of them are some
pub ascii_front : (bytes back : List ℕ) → all_plain_ascii (bytes ++ back) ≡ true → all_plain_ascii bytes ≡ true
ascii_front [] back all = refl
ascii_front (byte ∷ bytes) back all =
    let parts = both_parts (is_plain_ascii byte) (all_plain_ascii (bytes ++ back)) all in
    ap (λ first. first && all_plain_ascii bytes) parts.0 ∙ ascii_front bytes back parts.1

-- they are plain
pub ascii_plain : (bytes : List ℕ) → all_plain_ascii bytes ≡ true → all_plain bytes ≡ true
ascii_plain [] all = refl
ascii_plain (byte ∷ bytes) all =
    let parts = both_parts (is_plain_ascii byte) (all_plain_ascii bytes) all in
    let first = both_parts (is_plain_byte byte) (ltb byte 128) parts.0 in
    ap (λ one. one && all_plain bytes) first.0 ∙ ascii_plain bytes parts.1

-- and each of them is below 128
pub ascii_is : (bytes : List ℕ) → all_plain_ascii bytes ≡ true → IsAscii bytes
ascii_is [] all i = omega arith
ascii_is (byte ∷ bytes) all zero =
    let parts = both_parts (is_plain_ascii byte) (all_plain_ascii bytes) all in
    ltb-true byte 128 (both_parts (is_plain_byte byte) (ltb byte 128) parts.0).1
ascii_is (byte ∷ bytes) all (suc i) = ascii_is bytes (both_parts (is_plain_ascii byte) (all_plain_ascii bytes) all).1 i
