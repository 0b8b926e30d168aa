-- How the values of each input grow by the records that are read.
use Rattle.std.proofs.Common.{◌≡◌, ◌≤◌, ◌<◌, ◌+◌, ◌-◌, ◌^◌, min, ℕ, suc, zero, List, [], ◌∷◌, ◌++◌, length, take, get_or, set, map, refl, ap, sym, ◌∙◌, arith, append_assoc, length-append, Some, Bool, true, false, cond, subst, nat_eq, replicate, ◌⊎◌}
use Rattle.std.specs.List.{filter}
use Rattle.std.specs.Str.{bytes_eq, IsUtf8}
use Rattle.std.proofs.lemmas.List.{append-nil, map-append, take_more, get_or-map, map-set}
use Rattle.std.proofs.Math.Seq.{map-set_same}
use Rattle.flow_link.specs.declared.posted.Posted.{Posted}
use Rattle.csv.specs.Records.{field_at}
use Rattle.std.proofs.lemmas.List.Elements.{filter-append}
use Rattle.std.proofs.lemmas.List.Quantifiers.{position-Some}
use Rattle.std.proofs.lemmas.Bool.Decides.{nat_tests}
use Rattle.flow_value.specs.declared.value.Value.{Value}
use Rattle.flow_value.specs.declared.value.Value.TheVariants.{Text}
use Rattle.flow_link.specs.declared.draft.BlockDef.{BlockDef}
use Rattle.flow_link.specs.Lists.{numbers_from}
use Rattle.csv.specs.declared.parser.State.TheVariants as at
use Rattle.flow_record_text.specs.Records.{told_number, room, Row, input_names, input_named, is_this, posts_to, value_of, values_for, records, AllDiffer, IsFine, AllFine, PostsTo, posted_values, posted_endings}

-- a block's name, if it is an input
input_names-append : {W : Type 0} (front back : List (BlockDef W)) → input_names (front ++ back) ≡ input_names front ++ input_names back
input_names-append [] back = refl
input_names-append (block ∷ front) back =
    ap (λ names. cond block.input (block.name ∷ []) [] ++ names) (input_names-append front back)
    ∙ sym (append_assoc (cond block.input (block.name ∷ []) []) (input_names front) (input_names back))

pub input_names-more : {W : Type 0} (blocks : List (BlockDef W)) (at : ℕ) (block : BlockDef W) → at < length blocks → block ≡ get_or blocks at block
    → input_names (take (at + 1) blocks) ≡ input_names (take at blocks) ++ cond block.input (block.name ∷ []) []
input_names-more blocks at block within is =
    ap input_names (take_more blocks at block within ∙ ap (λ last. take at blocks ++ last ∷ []) (sym is))
    ∙ input_names-append (take at blocks) (block ∷ [])
    ∙ ap (λ names. input_names (take at blocks) ++ names) (append-nil _)

-- a field that there is
pub field-at : (fields : List (List ℕ)) (i : ℕ) → i < length fields → field_at fields i ≡ Some (get_or fields i [])
unfolding field_at
field-at [] i within = absurd (omega arith)
field-at (field ∷ fields) zero within = refl
field-at (field ∷ fields) (suc i) within = field-at fields i (omega arith)

-- one value of a list of values is another one
same-numbers : {A : Type 0} (f g : ℕ → A) (first count : ℕ) → ((j : ℕ) → first ≤ j → g j ≡ f j) → map g (numbers_from first count) ≡ map f (numbers_from first count)
same-numbers f g first zero others = refl
same-numbers f g first (suc count) others =
    let rest = same-numbers f g (suc first) count (λ j above. others j (omega arith)) in
    rw (others first (omega arith), rest) refl

set-numbers : {A : Type 0} (f g : ℕ → A) (first count i : ℕ) → i < count → ((j : ℕ) → (j ≡ first + i → ⊥) → g j ≡ f j)
    → map g (numbers_from first count) ≡ set (map f (numbers_from first count)) i (g (first + i))
set-numbers f g first zero i within others = absurd (omega arith)
set-numbers f g first (suc count) zero within others =
    let none : first + 0 ≡ first = omega arith in
    let rest = same-numbers f g (suc first) count (λ j above. others j (λ e. absurd (omega arith))) in
    rw (none, rest) refl
set-numbers f g first (suc count) (suc i) within others =
    let place : first + suc i ≡ suc first + i = omega arith in
    let rest = set-numbers f g (suc first) count i (omega arith) (λ j other. others j (λ e. other (e ∙ place))) in
    let front : g first ≡ f first = others first (λ e. absurd (omega arith)) in
    rw (place, rest, front) refl

-- one more record posts its text to its input
is_this-same : (i : ℕ) → nat_eq i i ≡ true
is_this-same i = grind (arith, nat_tests)

is_this-other : (j i : ℕ) → (j ≡ i → ⊥) → nat_eq j i ≡ false
is_this-other j i other = grind (arith, nat_tests)

values-more : (names : List (List ℕ)) (rows : List Row) (row : Row) (j : ℕ)
    → values_for names (rows ++ row ∷ []) j ≡ values_for names rows j ++ cond (posts_to names j row) (value_of row ∷ []) []
values-more names rows row j =
    ap (map value_of) (filter-append (posts_to names j) rows (row ∷ [])) ∙ map-append value_of (filter (posts_to names j) rows) (filter (posts_to names j) (row ∷ []))
    ∙ ap (λ last. values_for names rows j ++ last) (one (posts_to names j row))
  where
    one : (b : Bool) → map value_of (cond b (row ∷ []) []) ≡ cond b (value_of row ∷ []) []
    one true = refl
    one false = refl

-- the values of an input
pub values-at : (posted : List Posted) (i : ℕ) (slot : Posted) → i < length posted → slot ≡ get_or posted i slot
    → get_or (posted_values posted) i [] ≡ slot.values.items
values-at posted i slot within is =
    get_or-map (λ (input : Posted). input.values.items) posted i slot [] within ∙ ap (λ (input : Posted). input.values.items) (sym is)

-- what an input that gets one more value shows
pub set-values : (posted : List Posted) (i : ℕ) (slot new : Posted) (v : Value) → i < length posted → slot ≡ get_or posted i slot
    → new.values.items ≡ slot.values.items ++ v ∷ []
    → posted_values (set posted i new) ≡ set (posted_values posted) i (get_or (posted_values posted) i [] ++ v ∷ [])
set-values posted i slot new v within is items =
    let there = values-at posted i slot within is in
    map-set (λ (input : Posted). input.values.items) posted i new
    ∙ ap (λ values. set (posted_values posted) i values) (items ∙ ap (λ values. values ++ v ∷ []) (sym there))

-- it has fewer than 2^64, as each list
few-values : (input : Posted) → length input.values.items < 2 ^ 64
few-values input = omega (arith, input.values.ok, input.values.small)

one-longer : (values more : List Value) (v : Value) → more ≡ values ++ v ∷ [] → length more ≡ length values + 1
one-longer values more v is = ap length is ∙ length-append values (v ∷ [])

-- so there is less room behind it
pub room-less : (posted : List Posted) (i : ℕ) (slot new : Posted) (v : Value) → i < length posted → slot ≡ get_or posted i slot
    → new.values.items ≡ slot.values.items ++ v ∷ [] → room (posted_values (set posted i new)) < room (posted_values posted)
room-less [] i slot new v within is items = absurd (omega arith)
room-less (input ∷ posted) zero slot new v within is items =
    omega (arith, few-values input, one-longer slot.values.items new.values.items v items, ap (λ (one : Posted). length one.values.items) is)
room-less (input ∷ posted) (suc i) slot new v within is items = omega (arith, room-less posted i slot new v (omega arith) is items)

pub set-endings : (posted : List Posted) (i : ℕ) (slot new : Posted) → slot ≡ get_or posted i slot → new.ending ≡ slot.ending
    → posted_endings (set posted i new) ≡ posted_endings posted
set-endings posted i slot new is same =
    map-set_same (λ (input : Posted). input.ending) posted i new slot (same ∙ ap (λ (input : Posted). input.ending) is)

-- a value of a list by numbers
get-numbers : {A : Type 0} (f : ℕ → A) (first count i : ℕ) (d : A) → i < count → get_or (map f (numbers_from first count)) i d ≡ f (first + i)
get-numbers f first zero i d within = absurd (omega arith)
get-numbers f first (suc count) zero d within = ap f (omega arith)
get-numbers f first (suc count) (suc i) d within = get-numbers f (suc first) count i d (omega arith) ∙ ap f (omega arith)

-- the number that is found is that of an input, and the first with its name
pub named-within : (names : List (List ℕ)) (name : List ℕ) (i : ℕ) → input_named names name ≡ Some i → i < length names
named-within names name i found = (position-Some (λ other. bytes_eq other name) names i [] found).0

module _ (names : List (List ℕ)) where
  -- a record that posts a text to an input changes what that input gets, and no other
  pub records-more : (rows : List Row) (row : Row) (i : ℕ) (text : List ℕ) → PostsTo names row i text
      → records names (rows ++ row ∷ []) ≡ set (records names rows) i (get_or (records names rows) i [] ++ Text text ∷ [])
  records-more rows [] i text posts = absurd posts
  records-more rows (_ ∷ []) i text posts = absurd posts
  records-more rows (_ ∷ _ ∷ _ ∷ _) i text posts = absurd posts
  records-more rows (first ∷ second ∷ []) i text posts =
      let here : input_named names first ≡ Some i = posts.0 in
      let within = named-within names first i here in
      let grown = set-numbers (values_for names rows) (values_for names (rows ++ (first ∷ second ∷ []) ∷ [])) 0 (length names) i within
      (λ j other. values-more names rows (first ∷ second ∷ []) j
      ∙ ap (λ mine. values_for names rows j ++ cond mine (Text second ∷ []) []) (ap (is_this j) here ∙ is_this-other j i (λ e. other (omega (arith, e))))
      ∙ append-nil (values_for names rows j)) in
      let mine : values_for names (rows ++ (first ∷ second ∷ []) ∷ []) i ≡ values_for names rows i ++ Text text ∷ [] =
      values-more names rows (first ∷ second ∷ []) i
      ∙ ap (λ mine. values_for names rows i ++ cond mine (Text second ∷ []) []) (ap (is_this i) here ∙ is_this-same i)
      ∙ ap (λ last. values_for names rows i ++ Text last ∷ []) posts.1 in
      let before : get_or (records names rows) i [] ≡ values_for names rows i = get-numbers (values_for names rows) 0 (length names) i [] within ∙ ap (values_for names rows) (omega arith) in
      grown ∙ ap (λ values. set (records names rows) i values) (ap (values_for names (rows ++ (first ∷ second ∷ []) ∷ [])) (omega arith) ∙ mine ∙ ap (λ values. values ++ Text text ∷ []) (sym before))

  -- it can be posted
  pub posts-fine : (row : Row) (i : ℕ) (text : List ℕ) → PostsTo names row i text → IsFine names row
  posts-fine [] i text posts = posts
  posts-fine (_ ∷ []) i text posts = posts
  posts-fine (_ ∷ _ ∷ _ ∷ _) i text posts = posts
  posts-fine (first ∷ second ∷ []) i text posts = (posts.2, posts.3, rw posts.0 refl)

  pub all-fine-more : (rows : List Row) (row : Row) → AllFine names rows → IsFine names row → AllFine names (rows ++ row ∷ [])
  all-fine-more [] row fine last = (last, tt)
  all-fine-more (_ ∷ rows) row fine last = (fine.0, all-fine-more rows row fine.1 last)

-- an input with no records gets nothing
nothing-numbers : (first count : ℕ) → map {B = List Value} (λ (i : ℕ). []) (numbers_from first count) ≡ replicate count []
nothing-numbers first zero = refl
nothing-numbers first (suc count) = ap (λ (rest : List (List Value)). [] ∷ rest) (nothing-numbers (suc first) count)

pub records-none : (names : List (List ℕ)) → records names [] ≡ replicate (length names) []
records-none names = nothing-numbers 0 (length names)

-- a record of two fields posts the second to the input that the first names
pub posts-named : (names : List (List ℕ)) (row : Row) (i : ℕ) (text : List ℕ) → AllDiffer names → length row ≡ 2 → i < length names
    → get_or names i [] ≡ get_or row 0 [] → IsUtf8 (get_or row 0 []) → text ≡ get_or row 1 [] → IsUtf8 text → PostsTo names row i text
posts-named names [] i text differ two low named first is second = absurd (omega (arith, two))
posts-named names (_ ∷ []) i text differ two low named first is second = absurd (omega (arith, two))
posts-named names (_ ∷ _ ∷ _ ∷ rest) i text differ two low named first is second = absurd (omega (arith, two))
posts-named names (name ∷ field ∷ []) i text differ two low named first is second =
    (ap (input_named names) (sym named) ∙ differ i low, sym is, first, subst IsUtf8 is second)

-- the same where the name was found among all
pub posts-found : (names : List (List ℕ)) (row : Row) (i : ℕ) (text : List ℕ) → length row ≡ 2
    → (input_named names (get_or row 0 []) ≡ Some i) × IsUtf8 (get_or row 0 []) → text ≡ get_or row 1 [] → IsUtf8 text → PostsTo names row i text
posts-found names [] i text two found is second = absurd (omega (arith, two))
posts-found names (_ ∷ []) i text two found is second = absurd (omega (arith, two))
posts-found names (_ ∷ _ ∷ _ ∷ rest) i text two found is second = absurd (omega (arith, two))
posts-found names (name ∷ field ∷ []) i text two found is second = (found.0, sym is, found.1, subst IsUtf8 is second)

-- the number of the next record
pub next-number : (number next count : ℕ) → number ≡ told_number count → next ≡ min (number + 1) (2 ^ 64 - 1) → next ≡ told_number (count + 1)
next-number number next count here counted = omega (arith, here, counted)

pub counted-on : (rows : List Row) (row : Row) (number next : ℕ) → number ≡ told_number (length rows) → next ≡ min (number + 1) (2 ^ 64 - 1)
    → next ≡ told_number (length (rows ++ row ∷ []))
counted-on rows row number next here counted = next-number number next (length rows) here counted ∙ ap told_number (sym (length-append rows (row ∷ [])))

-- a record of two fields is these
pub two-parts : (row : Row) (name field : List ℕ) → length row ≡ 2 → Some name ≡ field_at row 0 → Some field ≡ field_at row 1 → row ≡ name ∷ field ∷ []
unfolding field_at
two-parts [] name field two first second = absurd (omega (arith, two))
two-parts (_ ∷ []) name field two first second = absurd (omega (arith, two))
two-parts (_ ∷ _ ∷ _ ∷ rest) name field two first second = absurd (omega (arith, two))
two-parts (one ∷ other ∷ []) name field two first second = cc
