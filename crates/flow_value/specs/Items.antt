-- What a contract sees of a row: its values one after another, each a number, a text or a row again.
use Rattle.std.specs.Prelude.{◌≡◌, ℕ, suc, ◌+◌, ℤ, List, refl}
use Rattle.std.specs.Coded.{Coded, coded_ℕ, coded_ℤ, coded_list}
use base.Stored.{Gv, gnil, gnum, gcons}

pub data Items : Type 0 where
  done : Items
  int_then : ℤ → Items → Items
  text_then : List ℕ → Items → Items
  row_then : Items → Items → Items

-- how many values there are, at all depths
abbrev pub value_count : Items → ℕ
value_count done = 0
value_count (int_then _ rest) = suc (value_count rest)
value_count (text_then _ rest) = suc (value_count rest)
value_count (row_then inner rest) = suc (value_count inner + value_count rest)

-- a row is stored as a list of its values, each behind a number for its kind
abbrev pub code_of : Items → Gv
code_of done = gnil
code_of (int_then n rest) = gcons (gcons (gnum 0) (coded_ℤ.code n)) (code_of rest)
code_of (text_then t rest) = gcons (gcons (gnum 1) ((coded_list coded_ℕ).code t)) (code_of rest)
code_of (row_then inner rest) = gcons (gcons (gnum 2) (code_of inner)) (code_of rest)

-- rows stored alike are equal
pub code_of-inj : (xs ys : Items) → code_of xs ≡ code_of ys → xs ≡ ys
code_of-inj done done e = refl
code_of-inj (int_then m xs) (int_then n ys) e =
    let first : m ≡ n = coded_ℤ.inj m n cc in
    let others : xs ≡ ys = code_of-inj xs ys cc in
    cc
code_of-inj (text_then s xs) (text_then t ys) e =
    let first : s ≡ t = (coded_list coded_ℕ).inj s t cc in
    let others : xs ≡ ys = code_of-inj xs ys cc in
    cc
code_of-inj (row_then r xs) (row_then s ys) e =
    let first : r ≡ s = code_of-inj r s cc in
    let others : xs ≡ ys = code_of-inj xs ys cc in
    cc
code_of-inj done (int_then _ _) e = cc
code_of-inj done (text_then _ _) e = cc
code_of-inj done (row_then _ _) e = cc
code_of-inj (int_then _ _) done e = cc
code_of-inj (int_then _ _) (text_then _ _) e = cc
code_of-inj (int_then _ _) (row_then _ _) e = cc
code_of-inj (text_then _ _) done e = cc
code_of-inj (text_then _ _) (int_then _ _) e = cc
code_of-inj (text_then _ _) (row_then _ _) e = cc
code_of-inj (row_then _ _) done e = cc
code_of-inj (row_then _ _) (int_then _ _) e = cc
code_of-inj (row_then _ _) (text_then _ _) e = cc

abbrev pub items_code : Coded Items
items_code = record { code = code_of; inj = code_of-inj }
