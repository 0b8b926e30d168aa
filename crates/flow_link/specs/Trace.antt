-- What a run leaves behind, and what can be read off it: what each block took and gave, what waits, and what is cut.
use Rattle.std.specs.Prelude.{ℕ, ◌+◌, ◌-◌, ◌==◌, Bool, true, false, cond, ◌||◌, ltb, List, [], ◌∷◌, length, get_or, take, drop, count_by, Option, Some, None, Result}
use Rattle.flow_value.specs.declared.value.Value.{Value}
use Rattle.flow_link.specs.declared.draft.BlockDef.{BlockDef}
use Rattle.flow_link.specs.declared.plan.Link.{Link}
use Rattle.flow_link.specs.declared.plan.LinkSource.{LinkSource}
use Rattle.flow_link.specs.declared.plan.LinkSource.TheVariants.{Block, Input}
use Rattle.flow_link.specs.declared.plan.LinkTarget.{LinkTarget}
use Rattle.flow_link.specs.declared.plan.LinkTarget.TheVariants.{Port, Exit}
use Rattle.flow_link.specs.declared.trace.Mark.{Mark}
use Rattle.flow_link.specs.declared.trace.Mark.TheVariants.{Took, Gave, Complete, Fault, Done}
use Rattle.flow_link.specs.declared.trace.Ending.{Ending}
use Rattle.flow_link.specs.declared.trace.Ending.TheVariants.{Open}
use Rattle.flow_link.specs.Layout.{Layout}
use Rattle.flow_link.specs.Plan.{block_in, link_in, port_count}
use Rattle.flow_link.specs.Lists.{below, some}

-- what one block leaves
pub record BlockTrace : Type 0 where
  pub journal : List Mark
  -- at each port, what was taken and made no output or result
  pub held : List (List Value)
  -- the outputs that were not given
  pub left : List Value
  -- the results that an action keeps
  pub recorded : List Value

-- what one input leaves
pub record InputTrace : Type 0 where
  pub posted : List Value
  pub ending : Ending

pub record Trace : Type 0 where
  pub blocks : List BlockTrace
  -- one for each block that is an input, in the order of these blocks
  pub inputs : List InputTrace
  -- the links whose targets refused them for good
  pub refused : ℕ → Bool

-- a network with a trace of it, and what a block's work gives for a value: values, or a fault's number
pub record Run (W : Type 0) : Type 0 where
  pub layout : Layout W
  pub meaning : ℕ → Value → Result (List Value) ℕ
  pub trace : Trace

-- the values of those Took marks whose port and link pass
abbrev pub took_where : (ℕ → ℕ → Bool) → List Mark → List Value
took_where test [] = []
took_where test (Took port link value ∷ marks) = cond (test port link) (value ∷ took_where test marks) (took_where test marks)
took_where test (Gave _ _ ∷ marks) = took_where test marks
took_where test (Complete _ ∷ marks) = took_where test marks
took_where test (Fault _ ∷ marks) = took_where test marks
took_where test (Done ∷ marks) = took_where test marks

-- what a block took, in all, at a port, and over a link
abbrev pub took : List Mark → List Value
took marks = took_where (λ port link. true) marks

abbrev pub took_at : ℕ → List Mark → List Value
took_at p marks = took_where (λ port link. port == p) marks

abbrev pub took_over : ℕ → List Mark → List Value
took_over l marks = took_where (λ port link. link == l) marks

-- the values of those Gave marks whose link passes
abbrev pub gave_where : (ℕ → Bool) → List Mark → List Value
gave_where test [] = []
gave_where test (Gave link value ∷ marks) = cond (test link) (value ∷ gave_where test marks) (gave_where test marks)
gave_where test (Took _ _ _ ∷ marks) = gave_where test marks
gave_where test (Complete _ ∷ marks) = gave_where test marks
gave_where test (Fault _ ∷ marks) = gave_where test marks
gave_where test (Done ∷ marks) = gave_where test marks

-- what a block gave, in all, and over a link
abbrev pub gave : List Mark → List Value
gave marks = gave_where (λ link. true) marks

abbrev pub gave_over : ℕ → List Mark → List Value
gave_over l marks = gave_where (λ link. link == l) marks

abbrev pub is_complete_mark : ℕ → Mark → Bool
is_complete_mark p (Complete port) = port == p
is_complete_mark p _ = false

abbrev pub is_fault_mark : ℕ → Mark → Bool
is_fault_mark fault (Fault number) = number == fault
is_fault_mark fault _ = false

abbrev pub is_any_fault_mark : Mark → Bool
is_any_fault_mark (Fault _) = true
is_any_fault_mark _ = false

abbrev pub is_done_mark : Mark → Bool
is_done_mark Done = true
is_done_mark _ = false

abbrev pub has_complete : ℕ → List Mark → Bool
has_complete p marks = some (is_complete_mark p) marks

abbrev pub has_fault : ℕ → List Mark → Bool
has_fault fault marks = some (is_fault_mark fault) marks

abbrev pub is_faulted : List Mark → Bool
is_faulted marks = some is_any_fault_mark marks

abbrev pub is_done : List Mark → Bool
is_done marks = some is_done_mark marks

-- the port takes nothing any more
abbrev pub has_ended : ℕ → List Mark → Bool
has_ended p marks = has_complete p marks || is_faulted marks || is_done marks

-- the values were given over this link as often as they may
abbrev pub is_used_up : Option ℕ → List Value → Bool
is_used_up None values = false
is_used_up (Some max) values = length values == max

-- of results in order, of which this many values were given, how many have a value that was not
abbrev pub partly_left : ℕ → List (List Value) → ℕ
partly_left given [] = 0
partly_left given (result ∷ results) = cond (ltb given (length result)) 1 0 + partly_left (given - length result) results

abbrev pub nothing_left : BlockTrace
nothing_left = record { journal = []; held = []; left = []; recorded = [] }

abbrev pub nothing_posted : InputTrace
nothing_posted = record { posted = []; ending = Open }

module _ {W : Type 0} (run : Run W) where
  abbrev pub block_of : ℕ → BlockDef W
  block_of b = block_in run.layout.blocks b

  abbrev pub link_of : ℕ → Link
  link_of l = link_in run.layout.links l

  abbrev pub block_numbers : List ℕ
  block_numbers = below (length run.layout.blocks)

  abbrev pub link_numbers : List ℕ
  link_numbers = below (length run.layout.links)

  abbrev pub ports_of : ℕ → List ℕ
  ports_of b = below (port_count (block_of b))

  abbrev pub trace_of : ℕ → BlockTrace
  trace_of b = get_or run.trace.blocks b nothing_left

  abbrev pub marks_of : ℕ → List Mark
  marks_of b = (trace_of b).journal

  abbrev pub held_at : ℕ → ℕ → List Value
  held_at b p = get_or (trace_of b).held p []

  abbrev pub left_at : ℕ → List Value
  left_at b = (trace_of b).left

  -- of the block that is an input
  abbrev pub input_of : ℕ → InputTrace
  input_of b = get_or run.trace.inputs (count_by (λ block. block.input) (take b run.layout.blocks)) nothing_posted

  -- what was given over a link, by a block
  abbrev pub given_by : ℕ → LinkSource → List Value
  given_by l (Block b) = gave_over l (marks_of b)
  given_by l (Input b) = []

  abbrev pub given_over : ℕ → List Value
  given_over l = given_by l (link_of l).source

  -- what was taken over a link, by a block
  abbrev pub taken_by : ℕ → LinkTarget → List Value
  taken_by l (Port b p) = took_over l (marks_of b)
  taken_by l Exit = []

  abbrev pub taken_over : ℕ → List Value
  taken_over l = taken_by l (link_of l).target

  -- what an input has posted and its block has not taken over the input's link
  abbrev pub waits_over : ℕ → ℕ → List Value
  waits_over b l = drop (length (taken_over l)) (input_of b).posted

  -- a link that carried as many values as it may is cut
  abbrev pub is_cut : ℕ → Bool
  is_cut l = is_used_up (link_of l).max (given_over l)

  abbrev pub is_refused : ℕ → Bool
  is_refused l = run.trace.refused l
