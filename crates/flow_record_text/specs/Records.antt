-- Which values the records of a text post to each input, and which record is the first that can't be posted.
use Rattle.std.specs.Prelude.{◌≡◌, ◌≢◌, ℕ, ◌+◌, ◌-◌, ◌^◌, ◌<◌, min, get_or, set, nat_eq, Bool, false, List, [], ◌∷◌, ◌++◌, length, map, position, cond, Option, Some, None, IsSome}
use Rattle.std.specs.Borrow.{Bor}
use Rattle.std.specs.List.{filter}
use Rattle.std.specs.Str.{bytes_eq, IsUtf8}
use Rattle.csv.specs.Reading.{default_config, strip_bom, Reached, AreRecords, Ready, reader_config, reader_trim}
use Rattle.csv.specs.declared.reader.Reader.{Reader}
use Rattle.csv.specs.declared.reader.Trim.TheVariants as trim
use Rattle.csv.specs.declared.parser.State.{State}
use Rattle.csv.specs.declared.parser.State.TheVariants as at
use Rattle.flow_value.specs.declared.value.Value.{Value}
use Rattle.flow_value.specs.declared.value.Value.TheVariants.{Text}
use Rattle.flow_link.specs.declared.draft.BlockDef.{BlockDef}
use Rattle.flow_link.specs.declared.trace.Ending.{Ending}
use Rattle.flow_link.specs.Lists.{below}
use Rattle.flow_link.specs.declared.posted.Posted.{Posted}
use Rattle.flow_fault_text.specs.declared.fault.TextFault.{TextFault}
use Rattle.flow_fault_text.specs.declared.fault.TextFault.TheVariants.{Csv, NotUtf8, UnknownInput, Read}
use Rattle.flow_fault_text.specs.declared.fault.TextRefusal.{TextRefusal}
use Rattle.flow_fault_text.specs.declared.fault.TextRefusal.TheVariants.{Fault, Memory}

-- the fields of a record, and records
abbrev pub Row : Type 0
Row = List (List ℕ)

-- the reader gives each record of a text, the first too, in the usual format and with all that stands in its fields
pub record TakesAll {R : Type 0} (reader : Reader R) : Type 0 where
  pub trim : reader_trim reader ≡ trim.None
  pub ready : Ready reader
  pub config : reader_config reader ≡ default_config

-- the names of the blocks that are inputs
abbrev pub input_names : {W : Type 0} → List (BlockDef W) → List (List ℕ)
input_names [] = []
input_names (block ∷ blocks) = cond block.input (block.name ∷ []) [] ++ input_names blocks

-- the number of an input among the inputs, by its name
abbrev pub input_named : List (List ℕ) → List ℕ → Option ℕ
input_named names name = position (λ other. bytes_eq other name) names

-- each input is the first with its name, since no two have the same
abbrev pub AllDiffer : List (List ℕ) → Type 0
AllDiffer names = (i : ℕ) → i < length names → input_named names (get_or names i []) ≡ Some i

-- what these references point to
abbrev pub texts_of : List (Bor (List ℕ)) → List (List ℕ)
texts_of names = map (λ name. name.now) names

abbrev pub is_this : ℕ → Option ℕ → Bool
is_this i None = false
is_this i (Some j) = nat_eq i j

-- the record posts to this input
abbrev pub posts_to : List (List ℕ) → ℕ → Row → Bool
posts_to names i (first ∷ second ∷ []) = is_this i (input_named names first)
posts_to names i _ = false

-- what it posts
abbrev pub value_of : Row → Value
value_of (first ∷ second ∷ []) = Text second
value_of _ = Text []

-- what is posted to one input, and to each in order
abbrev pub values_for : List (List ℕ) → List Row → ℕ → List Value
values_for names rows i = map value_of (filter (posts_to names i) rows)

abbrev pub records : List (List ℕ) → List Row → List (List Value)
records names rows = map (values_for names rows) (below (length names))

-- the record can be posted
abbrev pub IsFine : List (List ℕ) → Row → Type 0
IsFine names (first ∷ second ∷ []) = IsUtf8 first × IsUtf8 second × IsSome (input_named names first)
IsFine names _ = ⊥

abbrev pub AllFine : List (List ℕ) → List Row → Type 0
AllFine names [] = Unit {0}
AllFine names (row ∷ rows) = IsFine names row × AllFine names rows

-- the record posts this text to this input
abbrev pub PostsTo : List (List ℕ) → Row → ℕ → List ℕ → Type 0
PostsTo names (first ∷ second ∷ []) i text = (input_named names first ≡ Some i) × (second ≡ text) × IsUtf8 first × IsUtf8 second
PostsTo names _ i text = ⊥

-- the number by which a record is told: past 64 bits the greatest one
abbrev pub told_number : ℕ → ℕ
told_number n = min n (2 ^ 64 - 1)

-- why the record with this number can't be posted
abbrev pub HasFault : List (List ℕ) → ℕ → Row → TextFault → Type 0
HasFault names number row (Csv n) = (n ≡ number) × (length row ≢ 2)
HasFault names number (first ∷ second ∷ []) (NotUtf8 n) = (n ≡ number) × (IsUtf8 first → IsUtf8 second → ⊥)
HasFault names number (first ∷ second ∷ []) (UnknownInput n) = (n ≡ number) × IsUtf8 first × IsUtf8 second × (input_named names first ≡ None)
HasFault names number _ _ = ⊥

-- a text's records, all of which can be posted, post these values
abbrev pub PostAll : List (List ℕ) → List ℕ → List (List Value) → Type 0
PostAll names bytes values =
    (rows : List Row) × AreRecords default_config at.StartRecord (strip_bom bytes) rows × AllFine names rows × (values ≡ records names rows)

-- the fault is that of the first record of a text that can't be posted
abbrev pub IsFirstFault : List (List ℕ) → List ℕ → TextFault → Type 0
IsFirstFault names bytes fault =
    (rows : List Row) × (row : Row) × (state : State) × (rest : List ℕ)
    × Reached default_config at.StartRecord (strip_bom bytes) (rows ++ row ∷ []) state rest
    × AllFine names rows × HasFault names (told_number (length rows + 1)) row fault

-- reading stopped for a fault of a record, or of the reader, or since memory was out
abbrev pub IsOfRecords : TextRefusal → Type 0
IsOfRecords (Fault (Csv _)) = Unit {0}
IsOfRecords (Fault (NotUtf8 _)) = Unit {0}
IsOfRecords (Fault (UnknownInput _)) = Unit {0}
IsOfRecords (Fault Read) = Unit {0}
IsOfRecords (Fault _) = ⊥
IsOfRecords Memory = Unit {0}

-- why reading stopped; of a reader that failed, and of memory, nothing is said
abbrev pub Explains : List (List ℕ) → List ℕ → TextRefusal → Type 0
Explains names bytes (Fault Read) = Unit {0}
Explains names bytes (Fault fault) = IsFirstFault names bytes fault
Explains names bytes Memory = Unit {0}

abbrev pub posted_values : List Posted → List (List Value)
posted_values posted = map (λ input. input.values.items) posted

abbrev pub posted_endings : List Posted → List Ending
posted_endings posted = map (λ input. input.ending) posted

-- how many more values there may be before no list of them has room, since a list has fewer than 2^64
abbrev pub room : List (List Value) → ℕ
room [] = 0
room (values ∷ rest) = (2 ^ 64 - length values) + room rest

-- a record posts one value more, and is counted
abbrev pub Posts : List (List ℕ) → Row → ℕ → List (List Value) → ℕ → List (List Value) → Type 0
Posts names row number values next after =
    (i : ℕ) × (text : List ℕ) × PostsTo names row i text × (after ≡ set values i (get_or values i [] ++ Text text ∷ []))
    × (next ≡ min (number + 1) (2 ^ 64 - 1))

-- why the record behind so many is not posted
abbrev pub IsNotPosted : List (List ℕ) → Row → ℕ → TextRefusal → Type 0
IsNotPosted names row number (Fault fault) = HasFault names (min (number + 1) (2 ^ 64 - 1)) row fault
IsNotPosted names row number Memory = Unit {0}
