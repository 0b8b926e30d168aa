-- Words to write small networks and their traces with, for the examples of lawful and of refused runs.
use Rattle.std.specs.Prelude.{ℕ, zero, suc, ◌+◌, ◌-◌, ◌==◌, true, false, List, [], ◌∷◌, map, Some, None, Result, Ok, Err, pos}
use Rattle.flow_value.specs.View.{items_from}
use Rattle.flow_value.specs.declared.value.Value.{Value}
use Rattle.flow_value.specs.declared.value.Value.TheVariants.{Int, Text, Row}
use Rattle.flow_value.specs.declared.when.When.TheVariants.{Any, Even}
use Rattle.flow_link.specs.declared.draft.BlockDef.{BlockDef}
use Rattle.flow_link.specs.declared.draft.BlockKind.{BlockKind}
use Rattle.flow_link.specs.declared.draft.BlockKind.TheVariants.{Join}
use Rattle.flow_link.specs.declared.plan.Link.{Link}
use Rattle.flow_link.specs.declared.plan.LinkSource.TheVariants.{Block}
use Rattle.flow_link.specs.declared.plan.LinkTarget.TheVariants.{Port}
use Rattle.flow_link.specs.declared.trace.Mark.{Mark}
use Rattle.flow_link.specs.declared.trace.Mark.TheVariants.{Took, Gave, Complete, Done}
use Rattle.flow_link.specs.declared.trace.Ending.TheVariants.{Open, Complete as ending_complete, Fault as ending_fault}
use Rattle.flow_link.specs.Lists.{below, numbers_from}
use Rattle.flow_link.specs.Plan.{no_block}
use Rattle.flow_link.specs.Trace.{BlockTrace, InputTrace, Run}

-- the example's works are known by what they mean alone
abbrev pub Work : Type 0
Work = Unit {0}

abbrev pub block : BlockKind → BlockDef Work
block kind = record no_block { kind = kind }

abbrev pub with_input : BlockDef Work → BlockDef Work
with_input def = record def { input = true }

abbrev pub with_size : ℕ → BlockDef Work → BlockDef Work
with_size size def = record def { size = Some size }

abbrev pub with_capacity : ℕ → BlockDef Work → BlockDef Work
with_capacity capacity def = record def { capacity = Some capacity }

abbrev pub reserving_join : BlockDef Work
reserving_join = record (block Join) { greedy = Some false }

-- a link to the first port that propagates, and what may be said of it besides
abbrev pub link : ℕ → ℕ → Link
link source target = record { source = Block source; target = Port target 0; when = Any; max = None; propagate = true }

abbrev pub to_port : ℕ → ℕ → Link → Link
to_port target port def = record def { target = Port target port }

abbrev pub when_even : Link → Link
when_even def = record def { when = Even }

abbrev pub at_most : ℕ → Link → Link
at_most max def = record def { max = Some max }

abbrev pub kept_apart : Link → Link
kept_apart def = record def { propagate = false }

abbrev pub int : ℕ → Value
int n = Int (pos n)

-- the text of one digit
abbrev pub digit : ℕ → Value
digit n = Text ((48 + n) ∷ [])

-- texts of one letter
abbrev pub word_a : Value
word_a = Text (97 ∷ [])

abbrev pub word_b : Value
word_b = Text (98 ∷ [])

-- the digits from 1 on, as texts and as numbers
abbrev pub digits_to : ℕ → List Value
digits_to count = map digit (numbers_from 1 count)

abbrev pub ints_to : ℕ → List Value
ints_to count = map int (numbers_from 1 count)

abbrev pub row : List Value → Value
row values = Row (items_from values)

-- marks for several values
abbrev pub took_all : ℕ → ℕ → List Value → List Mark
took_all port l values = map (Took port l) values

abbrev pub gave_all : ℕ → List Value → List Mark
gave_all l values = map (Gave l) values

abbrev pub ended_well : List Mark
ended_well = Complete 0 ∷ Done ∷ []

-- a block with one port that holds nothing, and one that has nothing left either
abbrev pub leaves : List Mark → List Value → BlockTrace
leaves marks values = record { journal = marks; held = [] ∷ []; left = values; recorded = [] }

abbrev pub leaves_nothing : List Mark → BlockTrace
leaves_nothing marks = leaves marks []

abbrev pub holds : List Mark → List (List Value) → BlockTrace
holds marks held = record { journal = marks; held = held; left = []; recorded = [] }

-- a join with two ports that holds nothing and has nothing left
abbrev pub joins : List Mark → BlockTrace
joins marks = holds marks ([] ∷ [] ∷ [])

-- an action that holds nothing
abbrev pub records : List Mark → List Value → BlockTrace
records marks results = record { journal = marks; held = [] ∷ []; left = []; recorded = results }

abbrev pub posted : List Value → InputTrace
posted values = record { posted = values; ending = ending_complete }

-- an input that may still post
abbrev pub posted_open : List Value → InputTrace
posted_open values = record { posted = values; ending = Open }

abbrev pub posted_with_fault : ℕ → List Value → InputTrace
posted_with_fault fault values = record { posted = values; ending = ending_fault fault }

-- works that give their argument, that read a digit, and that then count up to it
abbrev pub same : Value → Result (List Value) ℕ
same value = Ok (value ∷ [])

abbrev pub read_digit : Value → Result (List Value) ℕ
read_digit (Text (code ∷ [])) = Ok (int (code - 48) ∷ [])
read_digit _ = Err 1

abbrev pub read_up_to : Value → Result (List Value) ℕ
read_up_to (Text (code ∷ [])) = Ok (map int (below (code - 48)))
read_up_to _ = Err 1

-- only the second block's work is not to give its argument
abbrev pub second_does : (Value → Result (List Value) ℕ) → ℕ → Value → Result (List Value) ℕ
second_does work (suc zero) value = work value
second_does work _ value = same value

-- a run of a network in which no target refuses for good, and in which one does
abbrev pub run_of : List (BlockDef Work) → List Link → (Value → Result (List Value) ℕ) → List BlockTrace → List InputTrace → Run Work
run_of blocks links work traces inputs = record {
  layout = record { blocks = blocks; links = links };
  meaning = second_does work;
  trace = record { blocks = traces; inputs = inputs; refused = λ l. false };
}

abbrev pub with_refused : ℕ → Run Work → Run Work
with_refused l run = record run { trace = record run.trace { refused = λ k. k == l } }
