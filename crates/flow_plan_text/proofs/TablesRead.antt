-- Tables that were read one by one, and the first whose function or predicate is none.
use Rattle.std.proofs.Common.{◌≡◌, ℕ, zero, suc, ◌+◌, ◌<◌, Bool, true, List, [], ◌∷◌, ◌++◌, length, get_or, take, Some, is_some, refl, ap, sym, ◌∙◌, subst, arith}
use Rattle.std.proofs.lemmas.Bool.{and_parts}
use Rattle.std.proofs.lemmas.List.{take_more}
use Rattle.flow_link.specs.declared.draft.BlockDef.{BlockDef}
use Rattle.flow_link.specs.declared.draft.LinkDef.{LinkDef}
use Rattle.flow_value.specs.declared.steps.Steps.{Steps}
use Rattle.toml.specs.Data.{Data, Members, string, integer, float, boolean, datetime, array, table, item, get_item, as_table}
use Rattle.toml.specs.View.{view, items_view}
use Rattle.toml.specs.declared.value.Value.{Value}
use Rattle.flow_plan_text.specs.Keys.{all_items}
use Rattle.flow_plan_text.specs.Read.{AreEach, IsBlock, IsLink, IsFirstBad, HasBadWork, HasBadWhen, items_before, is_sound, is_sound_in}
use Rattle.flow_plan_text.specs.Built.{IsWorkRefusal, IsWhenRefusal, IsBlocksRefusal, IsLinksRefusal}
use Rattle.flow_fault_text.specs.declared.fault.TextPlace.TheVariants as place
use Rattle.flow_fault_text.specs.declared.fault.TextRefusal.{TextRefusal}
use Rattle.flow_fault_text.specs.declared.fault.TextRefusal.TheVariants.{Fault, Memory}
use Rattle.flow_plan_text.specs.declared.network.keys.Part.{Part}

-- a test that all items pass is passed by the one at a place
pub all_at : (test : Data → Bool) (vs : List Value) (i : ℕ) (v : Value) → all_items test (items_view vs) ≡ true → i < length vs → v ≡ get_or vs i v → test (view v) ≡ true
all_at test [] i v all lt same = absurd (omega arith)
all_at test (x ∷ vs) zero v all lt same = ap (λ u. test (view u)) same ∙ (and_parts _ _ all).0
all_at test (x ∷ vs) (suc i) v all lt same = all_at test vs i v (and_parts _ _ all).1 (omega arith) same

-- what is a sound table is a table
pub table_known : (part : Part) (d : Data) → is_sound_in part d ≡ true → is_some (as_table d) ≡ true
table_known part (string s) h = h
table_known part (integer z) h = h
table_known part (float x) h = h
table_known part (boolean b) h = h
table_known part (datetime t) h = h
table_known part (array ds) h = h
table_known part (table ms) h = refl

-- and it is sound
pub table_sound : (part : Part) (d : Data) (ms : Members) → is_sound_in part d ≡ true → as_table d ≡ Some ms → is_sound part ms ≡ true
table_sound part (string s) ms h e = absurd (cc)
table_sound part (integer z) ms h e = absurd (cc)
table_sound part (float x) ms h e = absurd (cc)
table_sound part (boolean b) ms h e = absurd (cc)
table_sound part (datetime t) ms h e = absurd (cc)
table_sound part (array ds) ms h e = absurd (cc)
table_sound part (table ns) ms h e = let same : ms ≡ ns = cc in ap (is_sound part) same ∙ h

module _ {A : Type 0} (Is : Members → A → Type 0) where
  one_more : (vs : List Value) (xs : List A) (v : Value) (ms : Members) (x : A) → AreEach Is (items_view vs) xs
      → as_table (view v) ≡ Some ms → Is ms x → AreEach Is (items_view (vs ++ v ∷ [])) (xs ++ x ∷ [])
  one_more [] [] v ms x all e is = ((ms, e, is), tt)
  one_more [] (y ∷ xs) v ms x all e is = absurd all
  one_more (w ∷ vs) [] v ms x all e is = absurd all
  one_more (w ∷ vs) (y ∷ xs) v ms x all e is = (all.0, one_more vs xs v ms x all.1 e is)

  -- one more table was read
  pub each_more : (vs : List Value) (i : ℕ) (xs : List A) (v : Value) (ms : Members) (x : A) → AreEach Is (items_view (take i vs)) xs
      → i < length vs → v ≡ get_or vs i v → as_table (view v) ≡ Some ms → Is ms x → AreEach Is (items_view (take (i + 1) vs)) (xs ++ x ∷ [])
  each_more vs i xs v ms x all lt same e is =
      let grown : take (i + 1) vs ≡ take i vs ++ v ∷ [] = take_more vs i v lt ∙ ap (λ u. take i vs ++ u ∷ []) (sym same) in
      subst (λ us. AreEach Is (items_view us) (xs ++ x ∷ [])) (sym grown) (one_more (take i vs) xs v ms x all e is)

items_before_view : (n : ℕ) (vs : List Value) → items_before n (items_view vs) ≡ items_view (take n vs)
items_before_view zero vs = refl
items_before_view (suc n) [] = refl
items_before_view (suc n) (v ∷ vs) = ap (item (view v)) (items_before_view n vs)

get_item_view : (vs : List Value) (n : ℕ) (v : Value) → n < length vs → v ≡ get_or vs n v → get_item n (items_view vs) ≡ Some (view v)
get_item_view [] n v lt same = absurd (omega arith)
get_item_view (x ∷ vs) zero v lt same = ap (λ u. Some (view u)) (sym same)
get_item_view (x ∷ vs) (suc n) v lt same = get_item_view vs n v (omega arith) same

-- the table at this place is bad, and the tables before it were read
first_bad : {A : Type 0} (IsBad : Members → Type 0) (Is : Members → A → Type 0) (vs : List Value) (n : ℕ) (v : Value) (ms : Members) (xs : List A)
    → n < length vs → v ≡ get_or vs n v → as_table (view v) ≡ Some ms → IsBad ms → AreEach Is (items_view (take n vs)) xs
    → IsFirstBad IsBad Is (items_view vs) n
first_bad IsBad Is vs n v ms xs lt same e bad before = record {
  table = ms;
  stands = (view v, get_item_view vs n v lt same, e);
  bad = bad;
  read_before = (xs, subst (λ ds. AreEach Is ds xs) (sym (items_before_view n vs)) before);
}

-- the blocks are refused as the one at this place is
pub blocks_refused : (vs : List Value) (n : ℕ) (v : Value) (ms : Members) (blocks : List (BlockDef Steps)) (refusal : TextRefusal) → n < length vs
    → v ≡ get_or vs n v → as_table (view v) ≡ Some ms → IsWorkRefusal ms (place.Block n) refusal → AreEach IsBlock (items_view (take n vs)) blocks
    → IsBlocksRefusal vs refusal
blocks_refused vs n v ms blocks (Fault fault) lt same e bad before = (n, bad.0, first_bad HasBadWork IsBlock vs n v ms blocks lt same e bad.1 before)
blocks_refused vs n v ms blocks Memory lt same e bad before = tt

-- the links are refused as the one at this place is
pub links_refused : (vs : List Value) (n : ℕ) (v : Value) (ms : Members) (links : List LinkDef) (refusal : TextRefusal) → n < length vs
    → v ≡ get_or vs n v → as_table (view v) ≡ Some ms → IsWhenRefusal ms (place.Link n) refusal → AreEach IsLink (items_view (take n vs)) links
    → IsLinksRefusal vs refusal
links_refused vs n v ms links (Fault fault) lt same e bad before = (n, bad.0, first_bad HasBadWhen IsLink vs n v ms links lt same e bad.1 before)
links_refused vs n v ms links Memory lt same e bad before = tt
