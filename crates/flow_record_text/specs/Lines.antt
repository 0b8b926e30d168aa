-- Which lines are plain, and what is read of a text line by line.
use Rattle.std.specs.Prelude.{◌≡◌, ℕ, ◌+◌, ◌<◌, ◌≤◌, ◌==◌, ◌&&◌, not, Bool, true, get_or, List, [], ◌∷◌, ◌++◌, length, Option, Some, None}
use Rattle.csv.specs.Machine.{next_record}
use Rattle.csv.specs.Reading.{default_config, strip_bom, Reached, AreRecords}
use Rattle.csv.specs.declared.parser.State.{State}
use Rattle.csv.specs.declared.parser.State.TheVariants as at
use Rattle.flow_value.specs.declared.value.Value.{Value}
use Rattle.flow_fault_text.specs.declared.fault.TextFault.{TextFault}
use Rattle.flow_fault_text.specs.declared.fault.TextFault.TheVariants.{Read}
use Rattle.flow_fault_text.specs.declared.fault.TextRefusal.{TextRefusal}
use Rattle.flow_fault_text.specs.declared.fault.TextRefusal.TheVariants.{Fault, Memory}
use Rattle.flow_record_text.specs.Records.{Row, AllFine, HasFault, told_number, records}

-- the byte stands in a field as it is: it is no comma, line feed, quote or carriage return
abbrev pub is_ordinary : ℕ → Bool
is_ordinary b = not (b == 44) && not (b == 10) && not (b == 34) && not (b == 13)

-- so do these bytes, from one place up to another
abbrev pub AllOrdinary : List ℕ → ℕ → ℕ → Type 0
AllOrdinary bytes from to = (j : ℕ) → from ≤ j → j < to → is_ordinary (get_or bytes j 0) ≡ true

-- a line of two fields stands in front, whose comma and line feed stand at these places
pub record IsPlain (bytes : List ℕ) (comma end : ℕ) : Type 0 where
  pub name : AllOrdinary bytes 0 comma
  pub parts : get_or bytes comma 0 ≡ 44
  pub field : AllOrdinary bytes (comma + 1) end
  pub ends : get_or bytes end 0 ≡ 10
  pub after : comma < end
  pub within : end < length bytes

-- what was read of a text, up to what is left of it: records that can be posted, as many as these, which post these values
pub record IsRead (names : List (List ℕ)) (number : ℕ) (values : List (List Value)) (bytes left : List ℕ) : Type 0 where
  pub rows : List Row
  pub reached : Reached default_config at.StartRecord bytes rows at.StartRecord left
  pub fine : AllFine names rows
  pub count : number ≡ told_number (length rows)
  pub posted : values ≡ records names rows

-- the records of a text, all of which can be posted, post these values
abbrev pub PostAllOf : List (List ℕ) → List ℕ → List (List Value) → Type 0
PostAllOf names bytes values = (rows : List Row) × AreRecords default_config at.StartRecord bytes rows × AllFine names rows × (values ≡ records names rows)

-- the fault is that of the first record of a text that can't be posted
abbrev pub IsFirstOf : List (List ℕ) → List ℕ → TextFault → Type 0
IsFirstOf names bytes fault =
    (rows : List Row) × (row : Row) × (state : State) × (rest : List ℕ)
    × Reached default_config at.StartRecord bytes (rows ++ row ∷ []) state rest
    × AllFine names rows × HasFault names (told_number (length rows + 1)) row fault

-- why reading a text stopped; of a reader that failed, and of memory, nothing is said
abbrev pub ExplainsOf : List (List ℕ) → List ℕ → TextRefusal → Type 0
ExplainsOf names bytes (Fault Read) = Unit {0}
ExplainsOf names bytes (Fault fault) = IsFirstOf names bytes fault
ExplainsOf names bytes Memory = Unit {0}

-- a piece of a text is read, wherever it stands
abbrev pub GoesOn : List (List ℕ) → ℕ → List (List Value) → ℕ → List (List Value) → List ℕ → Type 0
GoesOn names number values next after piece =
    (bytes more : List ℕ) → IsRead names number values bytes (piece ++ more) → IsRead names next after bytes more

-- reading stops within a piece, for this reason
abbrev pub Stops : List (List ℕ) → ℕ → List (List Value) → List ℕ → TextRefusal → Type 0
Stops names number values piece refusal =
    (bytes more : List ℕ) → IsRead names number values bytes (piece ++ more) → ExplainsOf names bytes refusal

-- the same of what a reader has left, before and after, where that is known
abbrev pub GoesFrom : List (List ℕ) → ℕ → List (List Value) → ℕ → List (List Value) → Option (List ℕ) → Option (List ℕ) → Type 0
GoesFrom names number values next after None new = Unit {0}
GoesFrom names number values next after (Some left) None = ⊥
GoesFrom names number values next after (Some left) (Some more) =
    (bytes : List ℕ) → IsRead names number values bytes left → IsRead names next after bytes more

abbrev pub StopsFrom : List (List ℕ) → ℕ → List (List Value) → Option (List ℕ) → TextRefusal → Type 0
StopsFrom names number values None refusal = Unit {0}
StopsFrom names number values (Some left) refusal =
    (bytes : List ℕ) → IsRead names number values bytes left → ExplainsOf names bytes refusal

-- a line was read, and stands behind a line feed; where it is empty, the text has ended
abbrev pub ReadsLine : Option (List ℕ) → Option (List ℕ) → List ℕ → Type 0
ReadsLine None new line = (rest : List ℕ) × (line ≡ 10 ∷ rest)
ReadsLine (Some left) None line = ⊥
ReadsLine (Some left) (Some more) line = (rest : List ℕ) × (line ≡ 10 ∷ rest) × (left ≡ rest ++ more) × (rest ≡ [] → more ≡ [])

-- what was read, up to a line that is behind a line feed, and what a reader has left
abbrev pub LeavesLine : List (List ℕ) → ℕ → List (List Value) → ℕ → List (List Value) → Option (List ℕ) → Option (List ℕ) → List ℕ → Type 0
LeavesLine names number values next after None new line = Unit {0}
LeavesLine names number values next after (Some left) None line = ⊥
LeavesLine names number values next after (Some left) (Some more) line =
    (bytes : List ℕ) → IsRead names number values bytes left
    → (rest : List ℕ) × (line ≡ 10 ∷ rest) × IsRead names next after bytes (rest ++ more) × (rest ≡ [] → more ≡ [])

-- a text was begun: what is left reads as the rest of it does
pub record Begun (names : List (List ℕ)) (number : ℕ) (values : List (List Value)) (bytes left : List ℕ) : Type 0 where
  pub rest : List ℕ
  pub read : IsRead names number values bytes rest
  pub same : next_record default_config at.StartRecord [] [] (strip_bom left) ≡ next_record default_config at.StartRecord [] [] rest
