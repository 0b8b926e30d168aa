-- Small drafts with what is wrong with each, and one with nothing wrong.
use Rattle.std.specs.Prelude.{◌≡◌, ℕ, List, [], ◌∷◌, replicate, Some, None, true}
use Rattle.flow_link.specs.declared.draft.BlockDef.{BlockDef}
use Rattle.flow_link.specs.declared.draft.LinkDef.{LinkDef}
use Rattle.flow_link.specs.declared.draft.BlockKind.TheVariants.{Buffer, Action, Batch, Join}
use Rattle.flow_link.specs.declared.plan.Place.TheVariants.{Block, Link as at_link}
use Rattle.flow_link.specs.declared.plan.PlanFault.{PlanFault}
use Rattle.flow_link.specs.declared.plan.PlanFault.TheVariants.{Limit, DuplicateName, UnknownBlock, Port, NoOutput, BadOption, CapacityBelowSize, SharedSource, Cycle}
use Rattle.flow_link.specs.PlanFaults.{first_plan_fault}
use Rattle.flow_law.specs.Examples.{Work, block, with_input, with_size, with_capacity, reserving_join}

-- a block whose name is one letter, by its code
abbrev pub named : ℕ → BlockDef Work → BlockDef Work
named letter def = record def { name = letter ∷ [] }

abbrev pub buffer : ℕ → BlockDef Work
buffer letter = named letter (block Buffer)

abbrev pub action : ℕ → BlockDef Work
action letter = record (named letter (block Action)) { work = Some tt }

abbrev pub draft_link : ℕ → ℕ → LinkDef
draft_link from to = record { from = from ∷ []; to = to ∷ []; port = None; when = None; max = None; propagate = true }

abbrev pub into_port : ℕ → LinkDef → LinkDef
into_port port link = record link { port = Some port }

abbrev pub link_at_most : ℕ → LinkDef → LinkDef
link_at_most max link = record link { max = Some max }

-- the first fault of a draft is this one
abbrev pub HasFirst : List (BlockDef Work) → List LinkDef → PlanFault → Type 0
HasFirst blocks links fault = first_plan_fault blocks links ≡ Some fault

abbrev pub IsFine : List (BlockDef Work) → List LinkDef → Type 0
IsFine blocks links = first_plan_fault blocks links ≡ None

pub record FaultsOfDrafts : Type 0 where
  pub fine : IsFine (with_input (buffer 97) ∷ action 98 ∷ []) (draft_link 97 98 ∷ [])
  -- a draft has at most 256 blocks and 1,024 links, whatever else is wrong with it
  pub blocks_past_limit : HasFirst (replicate 257 (buffer 97)) [] Limit
  pub blocks_at_limit : HasFirst (replicate 256 (buffer 97)) [] (DuplicateName 1)
  pub links_past_limit : HasFirst (buffer 97 ∷ []) (replicate 1025 (draft_link 97 99)) Limit
  pub links_at_limit : HasFirst (buffer 97 ∷ []) (replicate 1024 (draft_link 97 99)) (UnknownBlock 0)
  pub same_name : HasFirst (buffer 97 ∷ buffer 97 ∷ buffer 97 ∷ []) (draft_link 97 99 ∷ []) (DuplicateName 1)
  pub unknown : HasFirst (buffer 97 ∷ []) (draft_link 97 99 ∷ []) (UnknownBlock 0)
  pub no_port : HasFirst (buffer 97 ∷ buffer 98 ∷ []) (into_port 1 (draft_link 97 98) ∷ []) (Port 0)
  -- the port is looked for before the number of ports is
  pub port_of_five : HasFirst (buffer 97 ∷ record (named 98 (block Join)) { ports = Some 5 } ∷ []) (into_port 4 (draft_link 97 98) ∷ []) (BadOption (Block 1))
  pub no_output : HasFirst (action 97 ∷ action 98 ∷ []) (draft_link 97 98 ∷ []) (NoOutput 0)
  pub no_room : HasFirst (with_capacity 0 (buffer 97) ∷ []) [] (BadOption (Block 0))
  pub no_name : HasFirst (buffer 32 ∷ []) [] (BadOption (Block 0))
  pub no_work : HasFirst (named 97 (block Action) ∷ []) [] (BadOption (Block 0))
  pub no_message : HasFirst (buffer 97 ∷ buffer 98 ∷ []) (draft_link 97 98 ∷ link_at_most 0 (draft_link 97 98) ∷ []) (BadOption (at_link 1))
  pub below_size : HasFirst (with_capacity 2 (with_size 3 (named 97 (block Batch))) ∷ []) [] (CapacityBelowSize 0)
  pub shared : HasFirst (buffer 97 ∷ named 98 reserving_join ∷ []) (draft_link 97 98 ∷ into_port 1 (draft_link 97 98) ∷ []) (SharedSource 1)
  pub round : HasFirst (buffer 97 ∷ buffer 98 ∷ []) (draft_link 97 98 ∷ draft_link 98 97 ∷ []) Cycle
  pub itself : HasFirst (buffer 97 ∷ []) (draft_link 97 97 ∷ []) Cycle
