-- The names of a plan's inputs all differ, since those of its blocks do.
use Rattle.std.proofs.Common.{◌≡◌, ℕ, zero, suc, ◌<◌, List, [], ◌∷◌, ◌++◌, length, get_or, Bool, true, false, cond, refl, nat_lt, sym, ◌∙◌, arith}
use Rattle.std.specs.List.{position_or_len}
use Rattle.std.specs.Str.{bytes_eq}
use Rattle.std.proofs.lemmas.List.Sums.{position_or_len_is}
use Rattle.std.proofs.lemmas.Slice.Eq.{bytes_eq-Decides}
use Rattle.flow_link.specs.declared.draft.BlockDef.{BlockDef}
use Rattle.flow_link.specs.Plan.{block_in}
use Rattle.flow_record_text.specs.Records.{AllDiffer, input_names}

-- no two of these names are the same
abbrev Differ : List (List ℕ) → Type 0
Differ names = (a b : ℕ) → a < b → b < length names → get_or names a [] ≡ get_or names b [] → ⊥

is_no : (name other : List ℕ) → (name ≡ other → ⊥) → (same : Bool) → bytes_eq name other ≡ same → same ≡ false
is_no name other differ true is = absurd (differ ((bytes_eq-Decides name other).0 is))
is_no name other differ false is = sym is ∙ is

each_first : (names : List (List ℕ)) → Differ names → AllDiffer names
each_first names differ i low =
    let name = get_or names i [] in
    let place : position_or_len (λ other. bytes_eq other name) names ≡ i =
    position_or_len_is (λ other. bytes_eq other name) names i [] (omega (arith, low))
    (λ k less. is_no (get_or names k []) name (differ k i less low) (bytes_eq (get_or names k []) name) refl)
    (λ _. (bytes_eq-Decides name name).1 refl) in
    let there : nat_lt i (length names) ≡ true = grind (arith, low) in
    rw (place, there) refl

module _ {W : Type 0} where
  abbrev BlocksDiffer : List (BlockDef W) → Type 0
  BlocksDiffer blocks = (a b : ℕ) → a < b → b < length blocks → (block_in blocks a).name ≡ (block_in blocks b).name → ⊥

  rest_differ : (block : BlockDef W) (blocks : List (BlockDef W)) → BlocksDiffer (block ∷ blocks) → BlocksDiffer blocks
  rest_differ block blocks differ a b less low = differ (suc a) (suc b) (omega (arith, less)) (omega (arith, low))

  -- each of an input's names is that of a block
  abbrev IsOfBlock : List (BlockDef W) → List ℕ → Type 0
  IsOfBlock blocks name = (b : ℕ) × (b < length blocks) × (name ≡ (block_in blocks b).name)

  of_rest : (block : BlockDef W) (blocks : List (BlockDef W)) (name : List ℕ) → IsOfBlock blocks name → IsOfBlock (block ∷ blocks) name
  of_rest block blocks name (b, low, is) = (suc b, omega (arith, low), is)

  abbrev AreOfBlocks : List (BlockDef W) → Type 0
  AreOfBlocks blocks = (i : ℕ) → i < length (input_names blocks) → IsOfBlock blocks (get_or (input_names blocks) i [])

  of_more : (input : Bool) (block : BlockDef W) (blocks : List (BlockDef W)) → AreOfBlocks blocks → (i : ℕ)
      → i < length (cond input (block.name ∷ []) [] ++ input_names blocks)
      → IsOfBlock (block ∷ blocks) (get_or (cond input (block.name ∷ []) [] ++ input_names blocks) i [])
  of_more true block blocks rest zero low = (0, omega arith, refl)
  of_more true block blocks rest (suc i) low =
      of_rest block blocks (get_or (input_names blocks) i []) (rest i (omega (arith, low)))
  of_more false block blocks rest i low = of_rest block blocks (get_or (input_names blocks) i []) (rest i low)

  of_block : (blocks : List (BlockDef W)) → AreOfBlocks blocks
  of_block [] = λ i low. absurd (omega (arith, low))
  of_block (block ∷ blocks) = of_more block.input block blocks (of_block blocks)

  differ_more : (input : Bool) (block : BlockDef W) (blocks : List (BlockDef W)) → BlocksDiffer (block ∷ blocks)
      → Differ (input_names blocks) → Differ (cond input (block.name ∷ []) [] ++ input_names blocks)
  differ_more false block blocks differ rest a b less low same = rest a b less low same
  differ_more true block blocks differ rest zero (suc b) less low same =
      let other = of_block blocks b (omega (arith, low)) in
      differ 0 (suc other.0) (omega arith) (omega (arith, other.1)) (same ∙ other.2)
  differ_more true block blocks differ rest (suc a) (suc b) less low same = rest a b (omega (arith, less)) (omega (arith, low)) same
  differ_more true block blocks differ rest a zero less low same = absurd (omega (arith, less))

  names_differ : (blocks : List (BlockDef W)) → BlocksDiffer blocks → Differ (input_names blocks)
  names_differ [] differ = λ a b less low. absurd (omega (arith, low))
  names_differ (block ∷ blocks) differ =
      differ_more block.input block blocks differ (names_differ blocks (rest_differ block blocks differ))

  pub all_differ : (blocks : List (BlockDef W)) → BlocksDiffer blocks → AllDiffer (input_names blocks)
  all_differ blocks differ = each_first (input_names blocks) (names_differ blocks differ)
