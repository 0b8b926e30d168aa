-- Where the names of inputs stand, as a map of them finds it.
use Rattle.std.specs.Prelude.{◌≡◌, ℕ, List, Option, None}
use Rattle.std.specs.Borrow.{Bor}
use Rattle.std.specs.HashMap.{HashMap, get_by}
use Rattle.std.specs.Str.{bytes_eq, IsUtf8}
use Rattle.flow_fault_text.specs.declared.fault.TextFault.{TextFault}
use Rattle.flow_fault_text.specs.declared.fault.TextFault.TheVariants.{NotUtf8, UnknownInput}
use Rattle.flow_record_text.specs.Records.{input_named}

-- what a map finds by a name
abbrev pub place_in : {S : Type 0} → HashMap (Bor (List ℕ)) ℕ S → List ℕ → Option ℕ
place_in places name = get_by (λ key. bytes_eq name key.now) places

-- by each name of an input it finds that input, and nothing by any other
abbrev pub FindsInputs : {S : Type 0} → HashMap (Bor (List ℕ)) ℕ S → List (List ℕ) → Type 0
FindsInputs places names = (name : List ℕ) → place_in places name ≡ input_named names name

-- why a name, by which this is found, is that of no input
abbrev pub HasNoInput : Option ℕ → ℕ → List ℕ → TextFault → Type 0
HasNoInput found number name (NotUtf8 n) = (n ≡ number) × (IsUtf8 name → ⊥)
HasNoInput found number name (UnknownInput n) = (n ≡ number) × IsUtf8 name × (found ≡ None)
HasNoInput found number name _ = ⊥
