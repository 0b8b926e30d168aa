-- What a network's parts tell is what its run has.
use Rattle.std.proofs.Common.{◌≡◌, ℕ, ◌<◌, Bool, true, false, List, [], ◌∷◌, length, Option, Some, None, Result}
use Rattle.std.proofs.Common.{refl, ap, ap₂, sym, ◌∙◌, subst}
use Rattle.std.proofs.Math.ListN.{get_or-map}
use Rattle.std.proofs.Math.Bridge.{le_prop}
use Rattle.std.proofs.Math.Logic.{∥∥₁_elim}
use Rattle.std.proofs.Math.Nat.{ℕ_set}
use mathlib.Core.Sum.{⊎_set}
use Rattle.flow_value.specs.declared.value.Value.{Value}
use Rattle.flow_value.specs.declared.work.WorkFault.{WorkFault}
use Rattle.flow_link.specs.declared.trace.Mark.{Mark}
use Rattle.flow_link.specs.declared.trace.Mark.TheVariants.{Took, Gave, Complete, Fault, Done}
use Rattle.flow_link.specs.declared.trace.Outcome.{Outcome}
use Rattle.flow_link.specs.declared.trace.Outcome.TheVariants as outcome
use Rattle.flow_lawful.specs.Endings.{stops, is_complete as is_run_complete}
use Rattle.flow_link.specs.Layout.{Layout}
use Rattle.flow_link.specs.Lists.{is_empty}
use Rattle.flow_link.specs.Plan.{block_in, no_block}
use Rattle.flow_link.specs.Trace.{Run, BlockTrace, is_done}
use Rattle.flow_link.specs.Trace.{trace_of, marks_of, left_at}
use Rattle.flow_block.specs.Node.{left_in, node_trace}
use Rattle.flow_block_law.specs.NodeLaw.{outcome_in, NodeLaw}
use Rattle.flow_block.specs.Planned.{input_place}
use Rattle.flow_block.specs.Peeks.{is_complete}
use Rattle.flow_block_law.proofs.CompleteSeen.{complete_told}
use Rattle.flow_block_law.proofs.JournalTells.{done_marked, goes_on}
use Rattle.flow_core.specs.Keeps.{NetKeeps}
use Rattle.flow_core.specs.State.{NetState, no_node, node_at}
use Rattle.flow_link.proofs.PlacesTell.{count_within}
use Rattle.flow_exec.specs.Works.{works_of}
use Rattle.flow_net.specs.Net.{run_with}
use Rattle.flow_net.specs.States.{fault_in, state_from, state_by, state_told}
use Rattle.flow_net.specs.declared.settled.State.{State}

-- What a journal tells of its block's state

-- where a block stopped by a fault, that is the fault in its journal
fault_found : (marks : List Mark) (n : ℕ) → outcome_in marks ≡ Some (outcome.Faulted n) → fault_in marks ≡ Some n
fault_found [] n e = absurd (cc)
fault_found (Took p l v ∷ marks) n e = fault_found marks n e
fault_found (Gave l v ∷ marks) n e = fault_found marks n e
fault_found (Complete p ∷ marks) n e = fault_found marks n e
fault_found (Fault m ∷ marks) n e = cc
fault_found (Done ∷ marks) n e = absurd (cc)

-- a block that goes on has none
no_fault : (marks : List Mark) → outcome_in marks ≡ None → fault_in marks ≡ None
no_fault [] e = refl
no_fault (Took p l v ∷ marks) e = no_fault marks e
no_fault (Gave l v ∷ marks) e = no_fault marks e
no_fault (Complete p ∷ marks) e = no_fault marks e
no_fault (Fault n ∷ marks) e = absurd (cc)
no_fault (Done ∷ marks) e = absurd (cc)

no_fault_in_none : (marks : List Mark) → is_empty marks ≡ true → fault_in marks ≡ None
no_fault_in_none [] e = refl
no_fault_in_none (mark ∷ marks) e = absurd (cc)

-- nothing follows the mark of a block that is done
no_fault_of_done : (marks : List Mark) → stops marks ≡ true → outcome_in marks ≡ Some outcome.Done → fault_in marks ≡ None
no_fault_of_done [] last e = refl
no_fault_of_done (Took p l v ∷ marks) last e = no_fault_of_done marks last e
no_fault_of_done (Gave l v ∷ marks) last e = no_fault_of_done marks last e
no_fault_of_done (Complete p ∷ marks) last e = no_fault_of_done marks last e
no_fault_of_done (Fault n ∷ marks) last e = absurd (cc)
no_fault_of_done (Done ∷ marks) last e = no_fault_in_none marks last

-- a block that goes on is completing where it is complete
going_state : (told complete : Bool) → told ≡ complete → state_from None false told ≡ state_told None complete
going_state true true e = refl
going_state false false e = refl
going_state true false e = absurd (cc)
going_state false true e = absurd (cc)

-- so how it stopped and whether it is complete tell its state
state_where : (marks : List Mark) (stopped : Option Outcome) (told complete : Bool) → stops marks ≡ true
    → stopped ≡ outcome_in marks → (stopped ≡ None → told ≡ complete)
    → state_from (fault_in marks) (is_done marks) told ≡ state_told stopped complete
state_where marks (Some (outcome.Faulted n)) told complete last how e =
    ap (λ (fault : Option ℕ). state_from fault (is_done marks) told) (fault_found marks n (sym how))
state_where marks (Some outcome.Done) told complete last how e =
    ap₂ (λ (fault : Option ℕ) (done : Bool). state_from fault done told)
    (no_fault_of_done marks last (sym how)) (done_marked marks (sym how))
state_where marks None told complete last how e =
    ap₂ (λ (fault : Option ℕ) (done : Bool). state_from fault done told) (no_fault marks (sym how))
    (goes_on marks (sym how)).1
    ∙ going_state told complete (e refl)

-- states are told apart
State-set : IsSet State
State-set = hlevel (ℕ_set, ⊎_set)

module _ {W : Type 0} (meaning : W → Value → Result (List Value) WorkFault) (layout : Layout W) (net : NetState) where
  abbrev run : Run W
  run = run_with meaning layout net

  -- What a block leaves of the run

  module _ (b : ℕ) where
    trace_is : node_trace (node_at net b) ≡ trace_of run b
    trace_is = sym (get_or-map node_trace net.nodes b no_node)

    pub journal_is : (node_at net b).journal ≡ marks_of run b
    journal_is = ap (λ (trace : BlockTrace). trace.journal) trace_is

    pub left_is : left_in (node_at net b).block ≡ left_at run b
    left_is = ap (λ (trace : BlockTrace). trace.left) trace_is

  -- Where the network is in order

  module _ (kept : ∥ NetKeeps layout (works_of meaning layout) net ∥₁) (b : ℕ) (low : b < length layout.blocks) where
    -- its state
    state_in : NodeLaw layout (works_of meaning layout) b (node_at net b)
        → state_by run b ≡ state_told (node_at net b).block.stopped (is_complete (node_at net b).block)
    state_in law =
        ap (λ (marks : List Mark). state_from (fault_in marks) (is_done marks) (is_run_complete run b)) (sym (journal_is b))
        ∙ state_where (node_at net b).journal (node_at net b).block.stopped (is_run_complete run b)
        (is_complete (node_at net b).block) law.marks.last law.ends.stopped_is
        (λ going. complete_told run b (node_at net b) law (sym (trace_is b)) going)

    pub state_is : state_by run b ≡ state_told (node_at net b).block.stopped (is_complete (node_at net b).block)
    state_is = ∥∥₁_elim kept (State-set _ _) (λ keeps. state_in (keeps.nodes b low))

    -- an input has a place among the inputs
    pub input_there : (block_in layout.blocks b).input ≡ true → input_place layout b < length net.inputs
    input_there e =
        ∥∥₁_elim kept le_prop (λ keeps.
        subst (λ (n : ℕ). input_place layout b < n) (sym keeps.input_count)
        (count_within (λ block. block.input) layout.blocks b no_block low e))
