-- The report of a run: for each block what it did and what it has left, line by line.
use Rattle.std.specs.Prelude.{ℕ, ◌+◌, ◌-◌, Bool, true, false, cond, List, [], ◌∷◌, ◌++◌, length, map, take, count_by, codes, Option, Some, None}
use Rattle.std.specs.List.{filter, concat}
use Rattle.std.specs.Fmt.{decimal}
use Rattle.flow_value.specs.Function.{meaning_of}
use Rattle.flow_value.specs.declared.steps.Steps.{Steps}
use Rattle.flow_value.specs.declared.value.Value.{Value}
use Rattle.flow_link.specs.declared.draft.BlockDef.{BlockDef}
use Rattle.flow_link.specs.declared.draft.BlockKind.{BlockKind}
use Rattle.flow_link.specs.declared.draft.BlockKind.TheVariants.{Action}
use Rattle.flow_link.specs.declared.trace.Mark.{Mark}
use Rattle.flow_link.specs.Layout.{outer_links}
use Rattle.flow_link.specs.Plan.{begins_at}
use Rattle.flow_link.specs.Lists.{below}
use Rattle.flow_link.specs.Trace.{Run, took_at, gave_over, block_of, link_of, marks_of, trace_of, held_at, left_at, waits_over, ports_of, block_numbers}
use Rattle.flow_net.specs.Net.{run_of}
use Rattle.flow_net.specs.declared.net.Net.{Net}
use Rattle.flow_net.specs.declared.settled.Settled.{Settled}
use Rattle.flow_net.specs.declared.settled.Settled.TheVariants.{Quiet, Stopped}
use Rattle.flow_net.specs.States.{state_by}
use Rattle.flow_net.specs.declared.settled.State.{State}
use Rattle.flow_net.specs.declared.settled.State.TheVariants as state
use Rattle.flow_report.specs.Printed.{list_text}

abbrev pub state_word : State → List ℕ
state_word state.Open = codes "open"
state_word state.Completing = codes "completing"
state_word state.Done = codes "done"
state_word (state.Faulted number) = codes "faulted " ++ decimal number

-- a line that ends with a list, behind a label, or a label and a number
abbrev pub labelled : List ℕ → List Value → List ℕ
labelled label values = label ++ (32 ∷ []) ++ list_text values ++ (10 ∷ [])

abbrev pub numbered : List ℕ → ℕ → List Value → List ℕ
numbered label number values = labelled (label ++ decimal number) values

-- a label, and a number behind it if there is one
abbrev pub label_text : List ℕ → Option ℕ → List ℕ
label_text label None = label
label_text label (Some number) = label ++ decimal number

abbrev pub block_line : List ℕ → State → List ℕ
block_line name state = codes "block " ++ name ++ (32 ∷ []) ++ state_word state ++ (10 ∷ [])

abbrev pub input_line : List Value → List ℕ
input_line waits = labelled (codes "input") waits

abbrev pub port_line : ℕ → List Mark → List ℕ
port_line port marks = numbered (codes "port ") port (took_at port marks)

abbrev pub held_line : ℕ → List Value → List ℕ
held_line port held = numbered (codes "held ") port held

abbrev pub link_line : ℕ → List Mark → List ℕ
link_line link marks = numbered (codes "link ") link (gave_over link marks)

abbrev pub exit_line : ℕ → List Mark → List ℕ
exit_line link marks = labelled (codes "exit") (gave_over link marks)

abbrev pub settled_line : Settled → List ℕ
settled_line Quiet = codes "quiet\n"
settled_line Stopped = codes "stopped\n"

abbrev pub is_action : BlockKind → Bool
is_action Action = true
is_action _ = false

-- an action keeps its results, every other block has outputs
abbrev pub last_line : Bool → List Value → List Value → List ℕ
last_line true recorded left = labelled (codes "record") recorded
last_line false recorded left = labelled (codes "left") left

abbrev pub is_input : {W : Type 0} → BlockDef W → Bool
is_input block = block.input

abbrev pub is_output : {W : Type 0} → BlockDef W → Bool
is_output block = block.output

module _ {W : Type 0} (run : Run W) where
  abbrev pub state_of : ℕ → State
  state_of b = state_by run b

  -- links between blocks have the first numbers, then come those of the inputs, then those of the exits
  abbrev pub between_count : ℕ
  between_count = length run.layout.links - length (outer_links run.layout.blocks)

  abbrev pub input_link_number : ℕ → ℕ
  input_link_number b = between_count + count_by is_input (take b run.layout.blocks)

  abbrev pub exit_link_number : ℕ → ℕ
  exit_link_number b = between_count + count_by is_input run.layout.blocks + count_by is_output (take b run.layout.blocks)

  -- the links from a block to other blocks
  abbrev pub links_out : ℕ → List ℕ
  links_out b = filter (λ l. begins_at b (link_of run l).source) (below between_count)

  abbrev pub port_lines : ℕ → ℕ → List ℕ
  port_lines b p = port_line p (marks_of run b) ++ held_line p (held_at run b p)

  abbrev pub all_ports : ℕ → List ℕ
  all_ports b = concat (map (port_lines b) (ports_of run b))

  abbrev pub all_links : ℕ → List ℕ
  all_links b = concat (map (λ l. link_line l (marks_of run b)) (links_out b))

  abbrev pub input_part : ℕ → List ℕ
  input_part b = cond (block_of run b).input (input_line (waits_over run b (input_link_number b))) []

  abbrev pub exit_part : ℕ → List ℕ
  exit_part b = cond (block_of run b).output (exit_line (exit_link_number b) (marks_of run b)) []

  abbrev pub last_part : ℕ → List ℕ
  last_part b = last_line (is_action (block_of run b).kind) (trace_of run b).recorded (left_at run b)

  abbrev pub block_report : ℕ → List ℕ
  block_report b = block_line (block_of run b).name (state_of b) ++ input_part b ++ all_ports b ++ all_links b ++ exit_part b ++ last_part b

  abbrev pub report : Settled → List ℕ
  report settled = concat (map block_report (block_numbers run)) ++ settled_line settled

-- the run of a network of steps, so far
abbrev pub run_in : {w : _} {e : _} → Net Steps w e → Run Steps
run_in net = run_of meaning_of net
