-- What printing one more byte, value or part adds.
use Rattle.std.proofs.Common.{◌≡◌, ◌≤◌, ◌<◌, ◌+◌, ◌-◌, ℕ, suc, zero, List, [], ◌∷◌, ◌++◌, length, take, drop, get_or, map, refl, ap, sym, ◌∙◌, arith, append_assoc, Option, Some, None, Bool, false, subst, length-take, nat_eq}
use Rattle.std.proofs.lemmas.List.{append-nil, take_more, drop-append-le, drop-take}
use Rattle.std.proofs.lemmas.Bool.Decides.{nat_tests}
use Rattle.std.proofs.Math.ListN.{drop_of_length-le}
use Rattle.std.specs.Io.KnownBytes.{Appends}
use Rattle.std.specs.List.{join_with_byte}
use Rattle.flow_link.specs.Lists.{is_empty}
use Rattle.flow_value.specs.Items.{Items, done, int_then, text_then, row_then, value_count}
use Rattle.flow_value.specs.View.{items_from, values_of, items_from-values_of}
use Rattle.flow_value.specs.declared.value.Value.{Value}
use Rattle.flow_value.specs.declared.value.Value.TheVariants.{Int, Text, Row}
use Rattle.flow_report.specs.Printed.{escaped, escapes, item_texts, value_text, list_text, comma_unless, opened}

-- how many values there are in a value, with those in its rows
abbrev pub weight : Value → ℕ
weight (Int _) = 0
weight (Text _) = 0
weight (Row items) = suc (value_count items)

-- an item of a list has no more than the list
pub weight-at : (vs : List Value) (k : ℕ) (v : Value) → k < length vs → v ≡ get_or vs k v → weight v ≤ value_count (items_from vs)
weight-at [] k v within is = absurd (omega arith)
weight-at (Int n ∷ vs) zero v within is = rw is (omega arith)
weight-at (Text t ∷ vs) zero v within is = rw is (omega arith)
weight-at (Row r ∷ vs) zero v within is = rw is (omega arith)
weight-at (Int n ∷ vs) (suc k) v within is = omega (arith, weight-at vs k v (omega arith) is)
weight-at (Text t ∷ vs) (suc k) v within is = omega (arith, weight-at vs k v (omega arith) is)
weight-at (Row r ∷ vs) (suc k) v within is = omega (arith, weight-at vs k v (omega arith) is)

-- a row has as many as its values
pub row-count : (items : Items) → value_count (items_from (values_of items)) ≡ value_count items
row-count items = ap value_count (items_from-values_of items)

-- two parts, one after another
pub appends-both : (old mid new : Option (List ℕ)) (front back : List ℕ) → Appends old mid front → Appends mid new back → Appends old new (front ++ back)
appends-both None mid new front back f b = tt
appends-both (Some xs) None new front back f b = absurd f
appends-both (Some xs) (Some ys) None front back f b = absurd b
appends-both (Some xs) (Some ys) (Some zs) front back f b = b ∙ ap (λ part. part ++ back) f ∙ append_assoc xs front back

-- each part of a text is printed by itself
pub escapes-append : (xs ys : List ℕ) → escapes (xs ++ ys) ≡ escapes xs ++ escapes ys
escapes-append [] ys = refl
escapes-append (x ∷ xs) ys = ap (λ rest. escaped x ++ rest) (escapes-append xs ys) ∙ sym (append_assoc (escaped x) (escapes xs) (escapes ys))

-- the byte behind those that are printed
pub escapes-more : (text : List ℕ) (at : ℕ) → at < length text → escapes (take (at + 1) text) ≡ escapes (take at text) ++ escaped (get_or text at 0)
escapes-more text at within =
    ap escapes (take_more text at 0 within) ∙ escapes-append (take at text) (get_or text at 0 ∷ [])
    ∙ ap (λ last. escapes (take at text) ++ last) (append-nil (escaped (get_or text at 0)))

module _ (text : List ℕ) (start at : ℕ) (within : at < length text) (before : start ≤ at)
    (plain : escapes (take at text) ≡ escapes (take start text) ++ drop start (take at text)) where
  short : start ≤ length (take at text)
  short = omega (arith, length-take at text)

  -- one more byte that stands for itself
  pub plain-more : escaped (get_or text at 0) ≡ get_or text at 0 ∷ []
      → escapes (take (at + 1) text) ≡ escapes (take start text) ++ drop start (take (at + 1) text)
  plain-more itself =
      escapes-more text at within ∙ ap (λ front. front ++ escaped (get_or text at 0)) plain
      ∙ append_assoc (escapes (take start text)) (drop start (take at text)) (escaped (get_or text at 0))
      ∙ ap (λ rest. escapes (take start text) ++ rest)
      (ap (λ last. drop start (take at text) ++ last) itself
      ∙ sym (drop-append-le start (take at text) (get_or text at 0 ∷ []) short)
      ∙ ap (drop start) (sym (take_more text at 0 within)))

  -- nothing stands between a place and itself
  pub plain-none : escapes (take (at + 1) text) ≡ escapes (take (at + 1) text) ++ drop (at + 1) (take (at + 1) text)
  plain-none =
      sym (ap (λ rest. escapes (take (at + 1) text) ++ rest) (drop_of_length-le (take (at + 1) text) (omega (arith, length-take (at + 1) text)))
      ∙ append-nil (escapes (take (at + 1) text)))

  -- the bytes since the last one that was escaped, and then one that is
  pub escaped-more : (old mid next new : Option (List ℕ)) → Appends old mid (escapes (take start text)) → Appends mid next (take (at - start) (drop start text))
      → Appends next new (escaped (get_or text at 0)) → Appends old new (escapes (take (at + 1) text))
  escaped-more old mid next new first second third =
      let between : drop start (take at text) ≡ take (at - start) (drop start text) =
      ap (λ n. drop start (take n text)) (omega arith) ∙ drop-take start (at - start) text in
      let all : escapes (take (at + 1) text) ≡ (escapes (take start text) ++ take (at - start) (drop start text)) ++ escaped (get_or text at 0) =
      escapes-more text at within ∙ ap (λ front. front ++ escaped (get_or text at 0)) (plain ∙ ap (λ part. escapes (take start text) ++ part) between) in
      rw all (appends-both old next new _ _ (appends-both old mid next _ _ first second) third)

-- the values of a row are printed as a list of them is
pub item_texts-are : (items : Items) → item_texts items ≡ map value_text (values_of items)
item_texts-are done = refl
item_texts-are (int_then n rest) = ap (λ texts. value_text (Int n) ∷ texts) (item_texts-are rest)
item_texts-are (text_then t rest) = ap (λ texts. value_text (Text t) ∷ texts) (item_texts-are rest)
item_texts-are (row_then inner rest) = ap (λ texts. value_text (Row inner) ∷ texts) (item_texts-are rest)

-- a row as an item of a list
pub row-item : (old mid new : Option (List ℕ)) (first : Bool) (v : Value) (row : Items) (values : List Value) → v ≡ Row row → values ≡ values_of row
    → Appends old mid (comma_unless first) → Appends mid new (list_text values) → Appends old new (comma_unless first ++ value_text v)
row-item old mid new first v row values is all before after = rw (is, item_texts-are row, ← all) (appends-both old mid new _ _ before after)

-- one more item of a list
join-more : (v : Value) (vs : List Value)
    → join_with_byte 44 (map value_text (vs ++ v ∷ [])) ≡ join_with_byte 44 (map value_text vs) ++ (comma_unless (is_empty vs) ++ value_text v)
join-more v [] = refl
join-more v (x ∷ []) = refl
join-more v (x ∷ y ∷ vs) =
    ap (λ rest. value_text x ++ (44 ∷ rest)) (join-more v (y ∷ vs))
    ∙ sym (append_assoc (value_text x) (44 ∷ join_with_byte 44 (map value_text (y ∷ vs))) ((44 ∷ []) ++ value_text v))

pub opened-more : (vs : List Value) (v : Value) → opened (vs ++ v ∷ []) ≡ opened vs ++ (comma_unless (is_empty vs) ++ value_text v)
opened-more vs v = ap (λ rest. 91 ∷ rest) (join-more v vs)

nat_eq-suc : (n : ℕ) → nat_eq (suc n) 0 ≡ false
nat_eq-suc n = grind (arith, nat_tests)

first-is : (vs : List Value) (at : ℕ) → at < length vs → nat_eq at 0 ≡ is_empty (take at vs)
first-is [] at within = absurd (omega arith)
first-is (v ∷ vs) zero within = refl
first-is (v ∷ vs) (suc at) within = nat_eq-suc at

-- the value behind those that are printed
pub items-more : (vs : List Value) (at : ℕ) (v : Value) → at < length vs → v ≡ get_or vs at v → (old mid new : Option (List ℕ))
    → Appends old mid (opened (take at vs)) → Appends mid new (comma_unless (nat_eq at 0) ++ value_text v) → Appends old new (opened (take (at + 1) vs))
items-more vs at v within is old mid new first second =
    let more : take (at + 1) vs ≡ take at vs ++ v ∷ [] = take_more vs at v within ∙ ap (λ last. take at vs ++ last ∷ []) (sym is) in
    let P : Bool → Type 0 = λ b. Appends mid new (comma_unless b ++ value_text v) in
    let next : P (is_empty (take at vs)) = subst P (first-is vs at within) second in
    rw (more, opened-more (take at vs) v) (appends-both old mid new _ _ first next)
